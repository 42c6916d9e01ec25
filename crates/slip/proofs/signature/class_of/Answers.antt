use Rattle.std.proofs.Common.{arith, rules}
use Rattle.std.proofs.lemmas.Bool.Decides.{nat_tests}
use Rattle.slip.specs.Signatures.{signature_class}
use Rattle.slip.proofs.signature.class_of.Goals as goal

pub returns-then-count-ne0 : goal.returns-then-count-ne0
unfolding signature_class
returns-then-count-ne0 c = grind (arith, nat_tests)

pub returns : goal.returns
unfolding signature_class
returns c = search rules
