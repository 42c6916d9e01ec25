use Rattle.std.proofs.Common.{◌≡◌, length, replicate, Some, vec_items, sym, ap, ◌∙◌, arith}
use Rattle.std.proofs.lemmas.Grind.{common_steps}
use Rattle.std.proofs.lemmas.Result.{on_err_weaker}
use Rattle.ring.specs.Classes.{size_of}
use Rattle.slip.specs.Refusals.{slip_fault}
use Rattle.slip.specs.Writes.{same_tests}
use Rattle.cases.specs.Texts.{settled_text}
use Rattle.cases.specs.Places.{slip_written_text}
use Rattle.cases.proofs.Giving.{gives_same}
use Rattle.cases.proofs.Settling.{settled_is}
use Rattle.cases.proofs.keys.write_text.Goals as goal

pub returns : goal.returns
returns g c =
    let place = c.args.place.now in
    let needed = g.P.Place.needed (size_of (g.P.Place.class_of place)) in
    let slip = g.P.Place.slip_of place in
    let sevens : vec_items c.in_ok-area.area ≡ replicate c.args.room 7 = c.in_ok-area.ensures.items_if_clones_equal (λ y h. h) in
    let same : c.as_slice.result.now ≡ c.put-answer.new.area = grind (arith, common_steps) in
    let old : c.as_mut_slice.result.now ≡ replicate c.args.room 7 = c.as_mut_slice.ensures.value ∙ sevens in
    let long : length c.as_mut_slice.result.now ≡ c.args.room = c.as_mut_slice.ensures.len ∙ c.in_ok-area.ensures.len in
    let answer = rw long at c.put-answer.ensures.answer in
    gives_same vec_items (Some (slip_written_text needed c.args.room slip)) (Some (settled_text slip_fault c.as_slice.result.now c.put-answer.result)) c.settled.result
    (ap Some (sym (ap (λ a. settled_text slip_fault a c.put-answer.result) same
    ∙ settled_is slip_fault (same_tests c.args.room needed) slip c.args.room _ _ answer (on_err_weaker c.put-answer.result (λ e. e ∙ old) c.put-answer.ensures.kept)))) c.settled.ensures
