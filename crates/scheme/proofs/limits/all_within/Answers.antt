use Rattle.std.proofs.Common.{rules, ◌≡◌, true, false}
use Rattle.std.proofs.lemmas.Iterator.{cases_from_all, YieldsList-from_slice}
use borrow.Author.Tests.{tests}
use Rattle.scheme.specs.Keys.{within}
use Rattle.scheme.proofs.Outside.{all_decides}
use Rattle.scheme.proofs.limits.all_within.Goals as goal

pub returns : goal.returns
returns g c =
    let limit = c.args.limit in
    let value = g.S.Number.value in
    let cases = cases_from_all _ _ _ (λ x. within limit (value x) ≡ true) (λ x. within limit (value x) ≡ false) c.all.ensures.ran (YieldsList-from_slice c.args.numbers.now (search rules)) (λ x q k. search (rules, tests)) (λ x q k. search (rules, tests)) in
    all_decides limit value c.args.numbers.now c.all.result cases
