use Rattle.std.proofs.Common.{◌≡◌, ◌*◌, ◌++◌, length, sym, ap, subst, ◌∙◌, arith, rules}
use Rattle.std.proofs.lemmas.List.{length-replicate}
use Rattle.ring.specs.Classes.{size_of}
use Rattle.key.specs.Stored.{room_of}
use Rattle.key.specs.Taking.{InMemory}
use Rattle.key.proofs.Sections.{size_room}
use Rattle.key.proofs.Taking.{held_at, part_is, stored_is, was_read}
use Rattle.key.proofs.section.stored.Goals as goal

pub split_at_mut-numbers-requires : goal.split_at_mut-numbers-requires
split_at_mut-numbers-requires g c = omega (arith, ap length c.filled-memory.ensures ∙ length-replicate room_of c.default.result, c.size.ensures, ap size_of c.class.ensures, size_room c.args.slip.now.class)

pub returns : goal.returns
returns g c =
    let s = c.args.slip.now in
    let part = part_is s c.args.i c.section.result c.unwrap-part.result c.section.ensures.part c.unwrap-part.ensures in
    let size = c.size.ensures ∙ ap size_of c.class.ensures in
    let lent = c.split_at_mut-numbers.ensures.front_len in
    let numbers = g.N.SlipNumber.numbers c.unwrap-part.result.bytes.now in
    let long : length c.unwrap-part.result.bytes.now ≡ g.row.WIDTH * size_of s.class = search rules in
    let done = was_read _ _ c.read_numbers.new.numbers numbers c.read_numbers.result (ap (λ n. g.row.WIDTH * n) (lent ∙ size) ∙ sym long) c.read_numbers.ensures.answer in
    let back = c.split_at_mut-numbers.ensures.back in
    held_at g.N.Default.is_default _ _ _ _ (c.read_numbers.new.numbers ++ c.split_at_mut-numbers.result.1.now) size (ap g.N.SlipNumber.numbers part.held)
    (stored_is g.N.Default.is_default c.default.result c.size.result c.filled-memory.result c.split_at_mut-numbers.result.1.now c.read_numbers.new.numbers numbers
    c.default.ensures c.filled-memory.ensures back done (c.read_numbers.auto.numbers ∙ lent))
