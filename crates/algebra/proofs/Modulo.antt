-- Numbers congruent modulo d stay so under sums, products and matrices.
use Rattle.std.proofs.Common.{◌≡◌, ℕ, ◌+◌, ◌<◌, List, [], ◌∷◌, map, reverse, length, take, drop, ℤ, ◌+ℤ◌, ◌*ℤ◌, sym, refl, ap, ◌∙◌, arith}
use Rattle.std.specs.List.{range_with_len}
use Rattle.std.proofs.lemmas.List.{take-map, drop-map}
use Rattle.ring.specs.Elements.{dot, crossed, coefficient, product, sum}
use Rattle.ring.specs.Kinds.{rest}
use Rattle.ring.proofs.Residues.{same_sum, same_negative, same_product}
use Rattle.scheme.specs.Matrices.{Pair, Matrix, applied}
use Rattle.algebra.proofs.Lists.{map_reverse}
use Rattle.algebra.specs.Isometries.{Congruent}

-- equal residues, number by number
abbrev Alike : ℕ → List ℤ → List ℤ → Type 0
Alike d a b = map (rest d) a ≡ map (rest d) b

module _ (d : ℕ) (pos-d : 0 < d) where
  dot_alike : (a a' b b' : List ℤ) → Alike d a a' → Alike d b b' → rest d (dot a b) ≡ rest d (dot a' b')
  unfolding dot
  dot_alike [] [] b b' h k = refl
  dot_alike [] (y ∷ a') b b' h k = let z : ◌≡◌ {A = ℕ} 0 1 = cc in absurd (omega arith)
  dot_alike (x ∷ a) [] b b' h k = let z : ◌≡◌ {A = ℕ} 0 1 = cc in absurd (omega arith)
  dot_alike (x ∷ a) (y ∷ a') [] [] h k = refl
  dot_alike (x ∷ a) (y ∷ a') [] (z ∷ b') h k = let z : ◌≡◌ {A = ℕ} 0 1 = cc in absurd (omega arith)
  dot_alike (x ∷ a) (y ∷ a') (z ∷ b) [] h k = let z : ◌≡◌ {A = ℕ} 0 1 = cc in absurd (omega arith)
  dot_alike (x ∷ a) (y ∷ a') (z ∷ b) (w ∷ b') h k =
      same_sum d (x *ℤ z) (y *ℤ w) (dot a b) (dot a' b') pos-d (same_product d x y z w pos-d (cc) (cc)) (dot_alike a a' b b' (cc) (cc))

  sum_alike : (a a' b b' : List ℤ) → Alike d a a' → Alike d b b' → Alike d (sum a b) (sum a' b')
  unfolding sum
  sum_alike [] [] b b' h k = refl
  sum_alike [] (y ∷ a') b b' h k = let z : ◌≡◌ {A = ℕ} 0 1 = cc in absurd (omega arith)
  sum_alike (x ∷ a) [] b b' h k = let z : ◌≡◌ {A = ℕ} 0 1 = cc in absurd (omega arith)
  sum_alike (x ∷ a) (y ∷ a') [] [] h k = refl
  sum_alike (x ∷ a) (y ∷ a') [] (z ∷ b') h k = let z : ◌≡◌ {A = ℕ} 0 1 = cc in absurd (omega arith)
  sum_alike (x ∷ a) (y ∷ a') (z ∷ b) [] h k = let z : ◌≡◌ {A = ℕ} 0 1 = cc in absurd (omega arith)
  sum_alike (x ∷ a) (y ∷ a') (z ∷ b) (w ∷ b') h k =
      let p : rest d (x +ℤ z) ≡ rest d (y +ℤ w) = same_sum d x y z w pos-d (cc) (cc) in
      let q : Alike d (sum a b) (sum a' b') = sum_alike a a' b b' (cc) (cc) in
      rw (p, q)

  crossed_alike : (a b b' : List ℤ) → Alike d b b' → rest d (crossed a b) ≡ rest d (crossed a b')
  unfolding crossed
  crossed_alike a b b' h = dot_alike a a (reverse b) (reverse b') refl (map_reverse (rest d) b ∙ ap reverse h ∙ sym (map_reverse (rest d) b'))

  coefficient_alike : (a b b' : List ℤ) (k : ℕ) → Alike d b b' → rest d (coefficient a b k) ≡ rest d (coefficient a b' k)
  unfolding coefficient
  coefficient_alike a b b' k h =
      let front : Alike d (take (k + 1) b) (take (k + 1) b') = sym (take-map (rest d) (k + 1) b) ∙ ap (take (k + 1)) h ∙ take-map (rest d) (k + 1) b' in
      let back : Alike d (drop (k + 1) b) (drop (k + 1) b') = sym (drop-map (rest d) (k + 1) b) ∙ ap (drop (k + 1)) h ∙ drop-map (rest d) (k + 1) b' in
      same_sum d _ _ _ _ pos-d (crossed_alike (take (k + 1) a) (take (k + 1) b) (take (k + 1) b') front)
      (same_negative d _ _ pos-d (crossed_alike (drop (k + 1) a) (drop (k + 1) b) (drop (k + 1) b') back))

  map_alike : (f g : ℕ → ℤ) → ((k : ℕ) → rest d (f k) ≡ rest d (g k)) → (ks : List ℕ) → Alike d (map f ks) (map g ks)
  map_alike f g h [] = refl
  map_alike f g h (k ∷ ks) = rw (h k, map_alike f g h ks)

  product_alike : (a b b' : List ℤ) → Alike d b b' → Alike d (product a b) (product a b')
  unfolding product
  product_alike a b b' h = map_alike (coefficient a b) (coefficient a b') (λ k. coefficient_alike a b b' k h) (range_with_len 0 (length a))

  pub applied_alike : (u : Matrix) (v w : Pair) → Congruent d v w → Congruent d (applied u v) (applied u w)
  unfolding applied
  applied_alike u v w h = (
    sum_alike _ _ _ _ (product_alike u.m00 v.first w.first h.0) (product_alike u.m01 v.second w.second h.1),
    sum_alike _ _ _ _ (product_alike u.m10 v.first w.first h.0) (product_alike u.m11 v.second w.second h.1),
  )
