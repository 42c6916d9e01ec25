use Rattle.std.proofs.Common.{eqb, ◌∙◌, rules}
use borrow.Author.Tests.{tests}
use Rattle.std.proofs.lemmas.Iterator.{YieldsList-from_slice, YieldsList-from_zip}
use Rattle.std.proofs.lemmas.Iterator.Search.{all_from_yields_List}
use Rattle.ring.specs.Kinds.{rest, bit_value}
use Rattle.signing.proofs.Agreements.{agree_all, parity_agrees}
use Rattle.signing.proofs.sample.agree.Goals as goal

pub returns : goal.returns
returns c =
    let xs = c.args.sample.now in
    let bits = c.args.bits.now in
    all_from_yields_List {s = c.zip.result} (λ p. eqb (rest 2 p.0) (bit_value p.1)) c.all.new.self _ c.all.result c.all.ensures.ran (YieldsList-from_zip (YieldsList-from_slice xs (cc)) (YieldsList-from_slice bits (cc))) (λ x b q k. search (rules, tests, parity_agrees))
    ∙ agree_all xs bits c.requires
