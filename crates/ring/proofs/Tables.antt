-- Lists that a loop fills place by place: entry i means f i.
use Rattle.std.proofs.Common.{◌≡◌, ℕ, ◌+◌, ◌<◌, ◌≤◌, List, map, length, take, set, ℤ, sym, ap, ◌∙◌, arith}
use Rattle.std.specs.List.{range_with_len}
use Rattle.std.proofs.lemmas.List.{take_more_set, map_push, take_all}
use Rattle.std.proofs.lemmas.List.FromFn.{map-range_with_len_more}
use Rattle.ring.specs.Elements.{coefficient, product}
use Rattle.ring.specs.Kinds.{rest}

module _ {X : Type 0} (m : ℕ) (res : X → ℕ) (f : ℕ → ℤ) where
  pub table_more : (out : List X) (i : ℕ) (y : X) → i < length out
      → map res (take i out) ≡ map (rest m) (map f (range_with_len 0 i)) → res y ≡ rest m (f i)
      → map res (take (i + 1) (set out i y)) ≡ map (rest m) (map f (range_with_len 0 (i + 1)))
  table_more out i y h inv e =
      ap (map res) (take_more_set out i y h)
      ∙ map_push res (take i out) y
      ∙ rw (inv, e) (sym (ap (map (rest m)) (map-range_with_len_more f 0 i i (omega arith)) ∙ map_push (rest m) (map f (range_with_len 0 i)) (f i)))

  pub table_all : (out : List X) (i n : ℕ) → length out ≡ n → n ≤ i → i ≤ n
      → map res (take i out) ≡ map (rest m) (map f (range_with_len 0 i))
      → map res out ≡ map (rest m) (map f (range_with_len 0 n))
  table_all out i n long h k inv =
      let e : i ≡ n = omega arith in
      let all : take i out ≡ out = take_all i out (omega arith) in
      rw all at inv ∙ ap (λ j. map (rest m) (map f (range_with_len 0 j))) e

-- products, sums and adjoints, place by place
pub product_table : (a b : List ℤ) (n : ℕ) → length a ≡ n → map (coefficient a b) (range_with_len 0 n) ≡ product a b
unfolding product
product_table a b n e = ap (λ k. map (coefficient a b) (range_with_len 0 k)) (sym e)
