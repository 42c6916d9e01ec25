use Rattle.std.proofs.Common.{◌≡◌, pos, refl, ◌∙◌}
use Rattle.key.specs.Making.{starred}
use Rattle.key.proofs.Taking.{padded_is, stored_is}
use Rattle.key.proofs.form.make.entry.Goals as goal

pub returns : goal.returns
returns c =
    let top = c.new-top.result in
    let bottom = c.new-bottom.result in
    let lent = c.split_at_mut-numbers.ensures.front_len in
    padded_is _ _ _
    (stored_is (λ x. x ≡ pos 0) (pos 0) _ c.filled-memory.result c.split_at_mut-numbers.result.1.now c.write_sums.new.numbers (starred top.a.now top.b.now bottom.a.now bottom.b.now)
    refl c.filled-memory.ensures c.split_at_mut-numbers.ensures.back c.write_sums.ensures (c.write_sums.auto.numbers ∙ lent))
    ∙ rw (c.new-top.ensures.a, c.new-top.ensures.b, c.new-bottom.ensures.a, c.new-bottom.ensures.b) refl
