use Rattle.std.proofs.Common.{rules, ◌≡◌, true, false}
use Rattle.std.proofs.lemmas.Iterator.{IsFirst-from_position, YieldsList-from_slice}
use borrow.Author.Tests.{tests}
use Rattle.scheme.specs.Keys.{within}
use Rattle.scheme.proofs.Outside.{first_decides}
use Rattle.scheme.proofs.limits.first_outside.Goals as goal

pub returns : goal.returns
returns g c =
    let limit = c.args.limit in
    let value = g.S.Number.value in
    let cases = IsFirst-from_position _ _ _ (λ x. within limit (value x) ≡ false) (λ x. within limit (value x) ≡ true) c.position.ensures.ran (YieldsList-from_slice c.args.numbers.now (search rules)) (λ x q k. search (rules, tests)) (λ x q k. search (rules, tests)) in
    first_decides limit value c.args.numbers.now c.position.result cases
