use Rattle.std.proofs.Common.{◌≡◌, ◌<◌, map, length, get_or, sym, ap, ◌∙◌, arith, rules, w64, SFits, to_z, of_z}
use Rattle.std.proofs.lemmas.List.{get_or-map, length-map, length-take, get_or-take}
use Rattle.std.proofs.lemmas.Int.{to_z-of_z}
use Rattle.ring.proofs.Fronts.{over_more, over_all}
use Rattle.ring.proofs.wide.widen.Goals as goal

pub loop-i-preserved : goal.loop-i-preserved
loop-i-preserved g c =
    let value = g.S.Number.value in
    let numbers = c.args.numbers.now in
    let room = c.min-room.result in
    let long = length-map numbers value in
    let cut = length-take room numbers in
    let wide : SFits w64 c.word.result = search rules in
    let at : c.loop-i.i < room = omega (arith, cut, c.min-room.ensures, c.loop-i-test.true) in
    let h : c.loop-i.i < length numbers = omega (arith, cut, c.min-room.ensures, c.loop-i-test.true) in
    let e : to_z w64 (of_z w64 c.word.result) ≡ get_or (map value numbers) c.loop-i.i (to_z w64 (of_z w64 c.word.result)) =
    to_z-of_z w64 c.word.result wide ∙ c.word.ensures ∙ ap value (c.number-item.is ∙ get_or-take room numbers c.loop-i.i _ at) ∙ sym (get_or-map value numbers c.loop-i.i c.number-item.result _ h) in
    over_more (map value numbers) c.args.words.now c.loop-i.words c.loop-i.i _ (omega (arith, long)) (omega (arith, c.min-room.ensures)) e c.loop-i.invariant

pub returns : goal.returns
returns g c =
    let numbers = c.args.numbers.now in
    let long = length-map numbers g.S.Number.value in
    let cut = length-take c.min-room.result numbers in
    over_all (map g.S.Number.value numbers) c.args.words.now c.loop-i.words c.loop-i.i (omega (arith, long, cut, c.min-room.ensures)) c.loop-i.invariant
