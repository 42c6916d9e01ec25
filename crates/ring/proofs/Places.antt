-- Sums, adjoints and turned elements, place by place.
use Rattle.std.proofs.Common.{◌≡◌, ℕ, zero, suc, ◌+◌, ◌-◌, ◌<◌, ◌≤◌, List, [], ◌∷◌, map, reverse, length, get_or, take, drop, replicate, ℤ, pos, ◌+ℤ◌, ◌-ℤ◌, neg_ℤ, sym, refl, ap, ◌∙◌, arith}
use Rattle.std.specs.List.{range_with_len}
use Rattle.std.proofs.lemmas.List.{get_or-map, get_or-reverse, length-map, length-reverse, length-drop, length-take, length-append, get_or_append_left, get_or-append_right, get_or-drop, get_or-take, length-take-le, length-replicate, get_or-replicate}
use Rattle.std.proofs.lemmas.List.FromFn.{fill_by_all, length-map-range_with_len, get_or-map-range_with_len}
use Rattle.ring.specs.Elements.{coefficient, product, sum, negative, difference, adjoint, turned, constant}

-- a list is the table of its places
pub self_table : (xs : List ℤ) (n : ℕ) → length xs ≡ n → map (λ i. get_or xs i (pos 0)) (range_with_len 0 n) ≡ xs
self_table xs n e = sym (fill_by_all (λ i. get_or xs i (pos 0)) xs n (pos 0) e (λ k h. refl))

pub length_sum : (a b : List ℤ) → length a ≡ length b → length (sum a b) ≡ length a
unfolding sum
length_sum [] b e = refl
length_sum (x ∷ a) [] e = absurd (omega arith)
length_sum (x ∷ a) (y ∷ b) e = ap suc (length_sum a b (omega arith))

pub sum_at : (a b : List ℤ) (i : ℕ) → i < length a → i < length b → get_or (sum a b) i (pos 0) ≡ get_or a i (pos 0) +ℤ get_or b i (pos 0)
unfolding sum
sum_at [] b i h k = absurd (omega arith)
sum_at (x ∷ a) [] i h k = absurd (omega arith)
sum_at (x ∷ a) (y ∷ b) zero h k = refl
sum_at (x ∷ a) (y ∷ b) (suc i) h k = sum_at a b i (omega arith) (omega arith)

pub length_adjoint : (a : List ℤ) → length (adjoint a) ≡ length a
unfolding adjoint
length_adjoint [] = refl
length_adjoint (x ∷ a) = ap suc (length-map (reverse a) neg_ℤ ∙ length-reverse a)

pub adjoint_first : (a : List ℤ) → get_or (adjoint a) 0 (pos 0) ≡ get_or a 0 (pos 0)
unfolding adjoint
adjoint_first [] = refl
adjoint_first (x ∷ a) = refl

pub adjoint_other : (a : List ℤ) (i : ℕ) → 0 < i → i < length a → get_or (adjoint a) i (pos 0) ≡ neg_ℤ (get_or a (length a - i) (pos 0))
unfolding adjoint
adjoint_other [] i h k = absurd (omega arith)
adjoint_other (x ∷ a) zero h k = absurd (omega arith)
adjoint_other (x ∷ a) (suc i) h k =
    let long : i < length (reverse a) = rw (length-reverse a) (omega arith) in
    let index : suc (length a) - suc i ≡ suc (length a - 1 - i) = omega arith in
    get_or-map neg_ℤ (reverse a) i (pos 0) (pos 0) long
    ∙ ap neg_ℤ (get_or-reverse a i (pos 0) (omega arith) ∙ sym (ap (λ j. get_or (x ∷ a) j (pos 0)) index))

module _ (a : List ℤ) (k : ℕ) (within : k ≤ length a) where
  front_length : length (map neg_ℤ (drop (length a - k) a)) ≡ k
  front_length = length-map (drop (length a - k) a) neg_ℤ ∙ length-drop (length a - k) a ∙ omega arith

  pub length_turned : length (turned k a) ≡ length a
  unfolding turned
  length_turned =
      length-append (map neg_ℤ (drop (length a - k) a)) (take (length a - k) a)
      ∙ rw (front_length, length-take (length a - k) a) (omega arith)

  pub turned_front : (i : ℕ) → i < k → get_or (turned k a) i (pos 0) ≡ neg_ℤ (get_or a (length a - (k - i)) (pos 0))
  unfolding turned
  turned_front i h =
      let long : i < length (map neg_ℤ (drop (length a - k) a)) = rw front_length h in
      let short : i < length (drop (length a - k) a) = rw (length-drop (length a - k) a) (omega arith) in
      let index : length a - k + i ≡ length a - (k - i) = omega arith in
      get_or_append_left (map neg_ℤ (drop (length a - k) a)) (take (length a - k) a) (pos 0) i long
      ∙ get_or-map neg_ℤ (drop (length a - k) a) i (pos 0) (pos 0) short
      ∙ ap neg_ℤ (get_or-drop (length a - k) a i (pos 0) ∙ ap (λ j. get_or a j (pos 0)) index)

  pub turned_back : (i : ℕ) → k ≤ i → i < length a → get_or (turned k a) i (pos 0) ≡ get_or a (i - k) (pos 0)
  unfolding turned
  turned_back i h below =
      get_or-append_right (map neg_ℤ (drop (length a - k) a)) (take (length a - k) a) k i (pos 0) front_length h
      ∙ get_or-take (length a - k) a (i - k) (pos 0) (omega arith)

pub length_product : (a b : List ℤ) → length (product a b) ≡ length a
unfolding product
length_product a b = length-map-range_with_len (coefficient a b) 0 (length a)

pub product_at : (a b : List ℤ) (k : ℕ) → k < length a → get_or (product a b) k (pos 0) ≡ coefficient a b k
unfolding product
product_at a b k h = get_or-map-range_with_len (coefficient a b) 0 (length a) k k (pos 0) h (omega arith)

pub length_negative : (a : List ℤ) → length (negative a) ≡ length a
unfolding negative
length_negative a = length-map a neg_ℤ

pub negative_at : (a : List ℤ) (i : ℕ) → i < length a → get_or (negative a) i (pos 0) ≡ neg_ℤ (get_or a i (pos 0))
unfolding negative
negative_at a i h = get_or-map neg_ℤ a i (pos 0) (pos 0) h

pub length_difference : (a b : List ℤ) → length a ≡ length b → length (difference a b) ≡ length a
unfolding difference
length_difference a b e = length_sum a (negative b) (e ∙ sym (length_negative b))

pub difference_at : (a b : List ℤ) (i : ℕ) → i < length a → i < length b → get_or (difference a b) i (pos 0) ≡ get_or a i (pos 0) -ℤ get_or b i (pos 0)
unfolding difference
difference_at a b i h k =
    let long = length_negative b in
    sum_at a (negative b) i h (omega arith) ∙ ap (λ z. get_or a i (pos 0) +ℤ z) (negative_at b i k)

pub length_constant : (n : ℕ) (c : ℤ) → length (constant n c) ≡ n
unfolding constant
length_constant n c = length-take-le n (c ∷ replicate n (pos 0)) (let long = length-replicate n (pos 0) in omega arith)

pub constant_first : (n : ℕ) (c : ℤ) → 0 < n → get_or (constant n c) 0 (pos 0) ≡ c
unfolding constant
constant_first zero c h = absurd (omega arith)
constant_first (suc n) c h = refl

pub constant_other : (n : ℕ) (c : ℤ) (i : ℕ) → 0 < i → i < n → get_or (constant n c) i (pos 0) ≡ pos 0
unfolding constant
constant_other zero c i h k = absurd (omega arith)
constant_other (suc n) c zero h k = absurd (omega arith)
constant_other (suc n) c (suc i) h k =
    get_or-take n (replicate (suc n) (pos 0)) i (pos 0) (omega arith) ∙ get_or-replicate (suc n) i (pos 0) (pos 0) (omega arith)
