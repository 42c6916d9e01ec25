use Rattle.std.proofs.Common.{◌≡◌, map, ℤ, FitsSigned, ap, ◌∙◌, rules, tests, w64}
use Rattle.std.proofs.lemmas.Iterator.{IsFirst-from_position, YieldsList-from_slice, YieldsList-from_zip}
use Rattle.std.proofs.lemmas.List.{map-id}
use Rattle.ring.specs.Elements.{adjoint}
use Rattle.ring.specs.Kinds.{word_value}
use Rattle.key.proofs.Adjoints.{unlike_found}
use Rattle.key.proofs.form.load.first_unlike.Goals as goal

pub returns : goal.returns
returns c =
    let q = c.args.numbers.now in
    let element = c.star.ensures.element ∙ map-id q in
    let mirror = c.star.ensures.mirror ∙ ap (λ xs. map word_value (adjoint xs)) (map-id q) in
    unlike_found q c.star.new.element c.star.new.mirror c.requires.small element mirror c.position.result
    (IsFirst-from_position c.position.new.self _ c.position.result (λ (p : ℤ × ℤ). FitsSigned w64 p.1 × (p.0 ≡ p.1 → ⊥)) (λ (p : ℤ × ℤ). p.0 ≡ p.1) c.position.ensures.ran
    (YieldsList-from_zip (YieldsList-from_slice c.star.new.element cc) (YieldsList-from_slice c.star.new.mirror cc))
    (λ x q k. (search (rules, tests), search (rules, tests)))
    (λ x q k. search (rules, tests)))
