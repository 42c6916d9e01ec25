-- Sums of coefficients, one more at a time.
use Rattle.std.proofs.Common.{◌≡◌, ℕ, zero, suc, ◌+◌, ◌*◌, ◌<◌, ◌≤◌, eqb, List, [], ◌∷◌, length, get_or, take, ℤ, pos, negsuc, ◌+ℤ◌, nat_abs, sym, refl, ap, ◌∙◌, mul-le-mul, add-one, arith, w64, SFits, to_z, of_z}
use Rattle.std.specs.Int.{int_rem_euclid}
use Rattle.std.proofs.lemmas.Int.{to_z-of_z}
use Rattle.ring.specs.Kinds.{rest}
use Rattle.scheme.specs.Keys.{odd}
use lib.IntN.{+ℤ_assoc, +ℤ_idl, +ℤ_idr}
use Rattle.std.proofs.lemmas.List.{take_all}
use Rattle.std.proofs.ByRecursion.{All-get_or}
use Rattle.ring.specs.Elements.{total}
use Rattle.ring.proofs.Sizes.{Bounded, abs_sum, fits_word}

total_next : (xs : List ℤ) (i : ℕ) → i < length xs → total (take (suc i) xs) ≡ total (take i xs) +ℤ get_or xs i (pos 0)
unfolding total
total_next [] i h = absurd (omega arith)
total_next (x ∷ xs) zero h = +ℤ_idr x ∙ sym (+ℤ_idl x)
total_next (x ∷ xs) (suc i) h = ap (λ t. x +ℤ t) (total_next xs i (omega arith)) ∙ sym (+ℤ_assoc x (total (take i xs)) (get_or xs i (pos 0)))

pub total_none : (xs : List ℤ) → total (take 0 xs) ≡ pos 0
unfolding total
total_none xs = refl

pub total_more : (xs : List ℤ) (i : ℕ) → i < length xs → total (take (i + 1) xs) ≡ total (take i xs) +ℤ get_or xs i (pos 0)
total_more xs i h = rw (add-one i) (total_next xs i h)

pub total_all : (xs : List ℤ) (i : ℕ) → length xs ≤ i → total (take i xs) ≡ total xs
total_all xs i h = ap total (take_all i xs h)

-- the size grows by at most m
pub size_more : (m : ℕ) (xs : List ℤ) (i : ℕ) (s : ℤ) → Bounded m xs → i < length xs → nat_abs s ≤ m * i → nat_abs (s +ℤ get_or xs i (pos 0)) ≤ m * (i + 1)
size_more m xs i s h k e = omega (arith, abs_sum s (get_or xs i (pos 0)), All-get_or (λ z. nat_abs z ≤ m) xs i (pos 0) k h)

-- one turn of the loop, in words
module _ (m : ℕ) (xs : List ℤ) (i : ℕ) (s : ℤ) (bounded : Bounded m xs) (few : length xs ≤ 1024) (small : m ≤ 127) (h : i < length xs) (e : s ≡ total (take i xs)) (size : nat_abs s ≤ m * i) where
  word_fits : SFits w64 (get_or xs i (pos 0))
  word_fits = fits_word (get_or xs i (pos 0)) (omega (arith, All-get_or (λ z. nat_abs z ≤ m) xs i (pos 0) h bounded))

  word_is : to_z w64 (of_z w64 (get_or xs i (pos 0))) ≡ get_or xs i (pos 0)
  word_is = to_z-of_z w64 (get_or xs i (pos 0)) word_fits

  sum_size : nat_abs (s +ℤ get_or xs i (pos 0)) ≤ m * (i + 1)
  sum_size = size_more m xs i s bounded h size

  below : m * (i + 1) ≤ 127 * 1024
  below = let turns : i + 1 ≤ 1024 = omega arith in mul-le-mul small turns

  pub sum_fits : SFits w64 (s +ℤ to_z w64 (of_z w64 (get_or xs i (pos 0))))
  sum_fits = rw word_is (fits_word (s +ℤ get_or xs i (pos 0)) (omega (arith, sum_size, below)))

  pub sum_step : (to_z w64 (of_z w64 (s +ℤ to_z w64 (of_z w64 (get_or xs i (pos 0))))) ≡ total (take (i + 1) xs)) × (nat_abs (to_z w64 (of_z w64 (s +ℤ to_z w64 (of_z w64 (get_or xs i (pos 0)))))) ≤ m * (i + 1))
  sum_step =
      let back = to_z-of_z w64 (s +ℤ to_z w64 (of_z w64 (get_or xs i (pos 0)))) sum_fits in
      rw (back, word_is) (ap (λ t. t +ℤ get_or xs i (pos 0)) e ∙ sym (total_more xs i h), sum_size)

pub odd_is : (r s z : ℤ) → r ≡ int_rem_euclid s (pos 2) → s ≡ z → eqb (of_z w64 r) 1 ≡ odd z
unfolding rest
odd_is r s z e f = ap (λ t. eqb (of_z w64 t) 1) (e ∙ ap (λ t. int_rem_euclid t (pos 2)) f) ∙ go z
  where
    go : (z : ℤ) → eqb (of_z w64 (int_rem_euclid z (pos 2))) 1 ≡ odd z
    go (pos a) = refl
    go (negsuc a) = refl
