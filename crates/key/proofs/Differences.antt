-- Two elements, and the first power at which they differ.
use Rattle.std.proofs.Common.{◌≡◌, ℕ, zero, suc, ◌+◌, ◌<◌, Bool, true, false, cond, List, [], ◌∷◌, length, get_or, ℤ, pos, ◌-ℤ◌, neg_ℤ, nat_abs, sym, refl, ap, ◌∙◌, arith}
use lib.IntN.{+ℤ_invr}
use borrow.Author.Differences.{same_in, abs_is, sum_is_lem, neg_is}
use Rattle.std.specs.List.{prefix_len}
use Rattle.std.proofs.lemmas.List.{ext_get_or}
use Rattle.std.proofs.lemmas.Bool.{ne_eqb, eqb-true}
use Rattle.ring.specs.Elements.{sum, negative, difference}
use Rattle.ring.proofs.Places.{difference_at, length_difference}
use Rattle.scheme.specs.Pairs.{is_zero}

apart : (x y : ℤ) → nat_abs (x -ℤ y) ≡ 0 → x ≡ y
apart x y e = same_in x y (omega (arith, abs_is (x -ℤ y), sum_is_lem x (neg_ℤ y), neg_is y))

all_zero : (xs : List ℤ) → prefix_len is_zero xs ≡ length xs → (k : ℕ) → k < length xs → is_zero (get_or xs k (pos 0)) ≡ true
all_zero [] e k h = absurd (omega arith)
all_zero (x ∷ xs) e k h = go (is_zero x) refl (all_zero xs) k h
  where
    go : (b : Bool) → is_zero x ≡ b → (prefix_len is_zero xs ≡ length xs → (k : ℕ) → k < length xs → is_zero (get_or xs k (pos 0)) ≡ true) → (k : ℕ) → k < suc (length xs) → is_zero (get_or (x ∷ xs) k (pos 0)) ≡ true
    go true p rest zero h = p
    go true p rest (suc k) h = rest (let step : prefix_len is_zero (x ∷ xs) ≡ 1 + prefix_len is_zero xs = ap (λ t. cond t (1 + prefix_len is_zero xs) 0) p in omega (arith, e, step)) k (omega arith)
    go false p rest k h = absurd (let stop : prefix_len is_zero (x ∷ xs) ≡ 0 = ap (λ t. cond t (1 + prefix_len is_zero xs) 0) p in omega (arith, e, stop))

module _ (a b : List ℤ) (long : length a ≡ length b) where
  pub alike : (k : ℕ) → k < length a → get_or a k (pos 0) ≡ get_or b k (pos 0) → is_zero (get_or (difference a b) k (pos 0)) ≡ true
  alike k h e = ap is_zero (difference_at a b k h (omega arith) ∙ ap (λ z. z -ℤ get_or b k (pos 0)) e ∙ +ℤ_invr (get_or b k (pos 0)))

  pub unlike : (k : ℕ) → k < length a → (get_or a k (pos 0) ≡ get_or b k (pos 0) → ⊥) → is_zero (get_or (difference a b) k (pos 0)) ≡ false
  unlike k h e =
      ne_eqb (nat_abs (get_or (difference a b) k (pos 0))) 0
      (λ none. e (apart (get_or a k (pos 0)) (get_or b k (pos 0)) (sym (ap nat_abs (difference_at a b k h (omega arith))) ∙ none)))

  -- where they differ nowhere, they are the same
  pub same_from : prefix_len is_zero (difference a b) ≡ length a → a ≡ b
  same_from e =
      let whole = length_difference a b long in
      ext_get_or (pos 0) a b long
      (λ k h.
      let same : nat_abs (get_or a k (pos 0) -ℤ get_or b k (pos 0)) ≡ 0 =
      sym (ap nat_abs (difference_at a b k h (omega arith))) ∙ eqb-true _ 0 (all_zero (difference a b) (e ∙ sym whole) k (omega arith)) in
      apart (get_or a k (pos 0)) (get_or b k (pos 0)) same)

pub never_differs : (a : List ℤ) → prefix_len is_zero (difference a a) ≡ length a
unfolding difference negative sum
never_differs [] = refl
never_differs (x ∷ a) =
    let same : is_zero (x -ℤ x) ≡ true = ap is_zero (+ℤ_invr x) in
    let rest = never_differs a in
    rw same (omega (arith, rest))
