use Rattle.std.proofs.Common.{◌≡◌, ◌*◌, false, map, length, ap, ◌∙◌, arith}
use Rattle.std.specs.List.{range_with_len}
use Rattle.std.proofs.lemmas.List.{length-replicate, length-take-le}
use Rattle.ring.specs.Classes.{size_of}
use Rattle.ring.specs.Kinds.{values, bit_value}
use Rattle.ring.specs.declared.kind.Bit.{Bit}
use Rattle.scheme.specs.Hashes.{hash_bit}
use Rattle.key.specs.Held.{basis_of}
use Rattle.signing.proofs.Joins.{size_small, row_same, target_is}
use Rattle.signing.proofs.target.target_bits.Goals as goal

pub returns : goal.returns
returns c =
    let key = c.args.key.now in
    let hash = c.args.hash.now in
    let b = basis_of key in
    let n = size_of key.class in
    let size : c.size-n.result ≡ n = c.size-n.ensures ∙ ap size_of c.class.ensures.class in
    let filled : length c.filled-memory.result ≡ 2048 = ap length c.filled-memory.ensures ∙ length-replicate {A = Bit} 2048 (record { 0 = false }) in
    let x_long : length c.split_at_mut-x.result.0.now ≡ n = c.split_at_mut-x.ensures.front_len ∙ size in
    let y_long : length c.split_at_mut-x.result.1.now ≡ n = omega (arith, c.split_at_mut-x.ensures.back_len, size, size_small key.class, length-take-le (2 * c.size-n.result) c.filled-memory.result (omega (arith, size, size_small key.class, filled))) in
    let x_is : values bit_value c.hash_bits.new.bits ≡ map (hash_bit hash) (range_with_len 0 n) = c.hash_bits.ensures ∙ ap (λ m. map (hash_bit hash) (range_with_len 0 m)) x_long in
    let y_is : values bit_value c.hash_bits-2.new.bits ≡ map (hash_bit hash) (range_with_len n n) = c.hash_bits-2.ensures ∙ ap (λ m. map (hash_bit hash) (range_with_len m (length c.split_at_mut-x.result.1.now))) size ∙ ap (λ m. map (hash_bit hash) (range_with_len n m)) y_long in
    target_is n b hash c.row_bits.new.bits c.row_bits-2.new.bits
    (row_same _ _ _ _ _ _ _ _ _ c.f.ensures.value c.cap_f.ensures.value x_is y_is c.row_bits.ensures)
    (row_same _ _ _ _ _ _ _ _ _ c.g.ensures.value c.cap_g.ensures.value x_is y_is c.row_bits-2.ensures)
