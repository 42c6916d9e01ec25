use Rattle.std.proofs.Common.{◌≡◌, map, length, sym, ap, ◌∙◌}
use Rattle.std.proofs.lemmas.List.{length-map}
use Rattle.ring.proofs.Fronts.{over_same}
use Rattle.ring.specs.Calls.{of_class}
use Rattle.key.proofs.Rows.{star_is}
use Rattle.key.proofs.star.star.Goals as goal

pub returns-clause-element : goal.returns-clause-element
returns-clause-element g c =
    let numbers = map g.S.Number.value c.args.numbers.now in
    c.widen.ensures ∙ over_same numbers c.args.element.now (c.requires.element ∙ sym (length-map c.args.numbers.now g.S.Number.value))

pub returns-clause-mirror : goal.returns-clause-mirror
returns-clause-mirror g c =
    let numbers = map g.S.Number.value c.args.numbers.now in
    let long : length numbers ≡ length c.args.numbers.now = length-map c.args.numbers.now g.S.Number.value in
    star_is numbers c.widen.new.words c.args.mirror.now c.adjoint.new.out c.adjoint.result (c.widen.ensures ∙ over_same numbers c.args.element.now (c.requires.element ∙ sym long))
    (ap of_class long ∙ c.requires.class) (c.requires.mirror ∙ sym long) c.adjoint.ensures.answer
