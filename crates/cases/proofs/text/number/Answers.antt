use Rattle.std.proofs.Common.{rules, ◌≡◌, tests, arith}
use Rattle.std.proofs.lemmas.Iterator.{YieldsList-from_slice}
use Rattle.std.proofs.lemmas.Grind.{common_steps}
use Rattle.cases.specs.Operands.{number_in, next_digit}
use Rattle.cases.proofs.Folding.{fold_from_try_fold}
use Rattle.cases.proofs.text.number.Goals as goal

pub returns : goal.returns
returns c =
    let e : c.try_fold.result ≡ number_in c.args.text.now =
    fold_from_try_fold _ _ _ _ next_digit _ (λ b x r q h. search (rules, tests)) 0 _ _ _ c.args.text.now c.try_fold.ensures.ran (YieldsList-from_slice c.args.text.now cc) in
    grind (arith, common_steps, e)
