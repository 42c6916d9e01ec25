use Rattle.std.proofs.Common.{◌*◌, ◌≤◌, map, ap, ◌∙◌, mul-le-mul_left, arith}
use Rattle.ring.specs.Classes.{size_of}
use Rattle.key.specs.Stored.{front}
use Rattle.key.proofs.Taking.{front_held, limit_fails, limit_passes, part_end, part_is}
use Rattle.key.proofs.section.tested.Goals as goal

pub overflow_add-result : goal.overflow_add-result
overflow_add-result g c =
    let s = c.args.slip.now in
    let part = part_is s c.args.i c.section.result c.unwrap-part.result c.section.ensures.part c.unwrap-part.ensures in
    let end = part_end s c.args.i c.requires.there in
    let found = c.in-Some.ensures in
    let below : c.in-Some.k ≤ size_of s.class = omega (arith, found.2, c.used.ensures.len, ap size_of c.class.ensures) in
    omega (arith, part.from, end, mul-le-mul_left g.row.WIDTH below, ap (λ w. w * size_of s.class) c.requires.width, c.well_formed)

pub returns-in-Some : goal.returns-in-Some
returns-in-Some g c =
    let s = c.args.slip.now in
    let part = part_is s c.args.i c.section.result c.unwrap-part.result c.section.ensures.part c.unwrap-part.ensures in
    let held = front_held g.N.Default.is_default s.class _ c.args.memory.now c.requires.held in
    let used = ap (map g.N.Number.value) (c.used.ensures.value ∙ ap (λ class. front class c.args.memory.now) c.class.ensures ∙ held) in
    let found = c.in-Some.ensures in
    limit_fails c.args.limit g.row.WIDTH _ _ _ used c.unwrap-part.result.place c.in-Some.k part.from found.0 found.1

pub returns-in-None : goal.returns-in-None
returns-in-None g c =
    let s = c.args.slip.now in
    let held = front_held g.N.Default.is_default s.class _ c.args.memory.now c.requires.held in
    let used = ap (map g.N.Number.value) (c.used.ensures.value ∙ ap (λ class. front class c.args.memory.now) c.class.ensures ∙ held) in
    (limit_passes c.args.limit g.row.WIDTH _ _ _ used c.in-None.ensures, tt)
