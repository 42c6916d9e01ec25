-- Sums of squares, and how large they let the numbers of a matrix times a pair be.
use Rattle.std.proofs.Common.{◌≡◌, ℕ, ◌+◌, ◌-◌, ◌*◌, ◌≤◌, List, [], ◌∷◌, ◌++◌, reverse, length, take, drop, ℤ, pos, negsuc, ◌*ℤ◌, neg_ℤ, nat_abs, sym, refl, ap, ◌∙◌, subst, inl, inr, mul-le-mul, arith}
use Rattle.std.specs.List.{range_with_len, AllByRecursion}
use Rattle.std.proofs.ByRecursion.{All-map}
use Rattle.std.proofs.lemmas.List.{take-append-drop}
use Rattle.std.proofs.lemmas.Bool.{cases_lt, leb-true}
use Rattle.ring.specs.Elements.{dot, crossed, coefficient, product, sum, negative}
use Rattle.ring.proofs.Sizes.{Bounded, abs_sum, abs_neg, abs_product}
use Rattle.scheme.specs.Keys.{Within, key_limit}
use Rattle.algebra.proofs.Lists.{reverse_cons}

abbrev pub squares : List ℤ → ℕ
squares [] = 0
squares (x ∷ xs) = nat_abs x * nat_abs x + squares xs

-- ---- the sum of squares as an inner product
square_is : (x : ℤ) → x *ℤ x ≡ pos (nat_abs x * nat_abs x)
square_is (pos a) = refl
square_is (negsuc a) = refl

pub dot_self : (a : List ℤ) → dot a a ≡ pos (squares a)
unfolding dot
dot_self [] = refl
dot_self (x ∷ a) = rw (square_is x, dot_self a)

-- ---- what keeps it
pub squares_append : (a b : List ℤ) → squares (a ++ b) ≡ squares a + squares b
squares_append [] b = omega arith
squares_append (x ∷ a) b = omega (arith, squares_append a b)

pub squares_reverse : (a : List ℤ) → squares (reverse a) ≡ squares a
squares_reverse [] = refl
squares_reverse (x ∷ a) = ap squares (reverse_cons x a) ∙ squares_append (reverse a) (x ∷ []) ∙ omega (arith, squares_reverse a)

pub squares_negative : (a : List ℤ) → squares (negative a) ≡ squares a
unfolding negative
squares_negative [] = refl
squares_negative (x ∷ a) = rw (abs_neg x, squares_negative a)

squares_split : (k : ℕ) (a : List ℤ) → squares (take k a) + squares (drop k a) ≡ squares a
squares_split k a = sym (squares_append (take k a) (drop k a)) ∙ ap squares (take-append-drop k a)

-- ---- 64·|p·q| ≤ p² + 1,024·q²
mean_above : (q d : ℕ) → 64 * ((32 * q + d) * q) ≤ (32 * q + d) * (32 * q + d) + 1024 * (q * q)
mean_above q d = omega arith

mean_below : (p q d : ℕ) → 32 * q ≡ p + d → 64 * (p * q) ≤ p * p + 1024 * (q * q)
mean_below p q d e =
    let one : p * (32 * q) ≡ p * (p + d) = ap (λ t. p * t) e in
    let two : (32 * q) * (32 * q) ≡ (p + d) * (p + d) = ap (λ t. t * t) e in
    omega (arith, one, two)

mean : (p q : ℕ) → 64 * (p * q) ≤ p * p + 1024 * (q * q)
mean p q = elim (cases_lt p (32 * q)) [
  | inl h ↦ mean_below p q (32 * q - p) (omega arith)
  | inr h ↦
      let e : 32 * q + (p - 32 * q) ≡ p = omega arith in
      subst (λ t. 64 * (t * q) ≤ t * t + 1024 * (q * q)) e (mean_above q (p - 32 * q))
]

pub dot_squares : (a b : List ℤ) → 64 * nat_abs (dot a b) ≤ squares a + 1024 * squares b
unfolding dot
dot_squares [] b = omega arith
dot_squares (x ∷ a) [] = omega arith
dot_squares (x ∷ a) (y ∷ b) =
    omega (arith, abs_sum (x *ℤ y) (dot a b), abs_product x y, mean (nat_abs x) (nat_abs y), dot_squares a b)

crossed_squares : (a b : List ℤ) → 64 * nat_abs (crossed a b) ≤ squares a + 1024 * squares b
unfolding crossed
crossed_squares a b = omega (arith, dot_squares a (reverse b), squares_reverse b)

pub coefficient_squares : (a b : List ℤ) (k : ℕ) → 64 * nat_abs (coefficient a b k) ≤ squares a + 1024 * squares b
unfolding coefficient
coefficient_squares a b k =
    let near = crossed (take (k + 1) a) (take (k + 1) b) in
    let far = crossed (drop (k + 1) a) (drop (k + 1) b) in
    omega (
      arith,
      abs_sum near (neg_ℤ far),
      abs_neg far,
      crossed_squares (take (k + 1) a) (take (k + 1) b),
      crossed_squares (drop (k + 1) a) (drop (k + 1) b),
      squares_split (k + 1) a,
      squares_split (k + 1) b,
    )

-- ---- small numbers have small squares
pub squares_within : (a : List ℤ) → AllByRecursion (Within key_limit) a → squares a ≤ length a * 16129
squares_within [] h = omega arith
squares_within (x ∷ a) h =
    let small : nat_abs x ≤ 127 = leb-true (nat_abs x) 127 h.0 in
    omega (arith, mul-le-mul small small, squares_within a h.1)

pub square_below : (a : List ℤ) (m : ℕ) → squares a ≤ m → AllByRecursion (λ z. nat_abs z * nat_abs z ≤ m) a
square_below [] m h = tt
square_below (x ∷ a) m h = (omega arith, square_below a m (omega arith))

-- ---- the numbers of a·x + b·y
module _ (n : ℕ) (a b x y : List ℤ) (few : n ≤ 1024) (long-a : length a ≡ n) (long-b : length b ≡ n)
    (small-a : AllByRecursion (Within key_limit) a) (small_b : AllByRecursion (Within key_limit) b) (short : squares x + squares y ≤ 20243) where
  all_coefficients : (c z : List ℤ) (ks : List ℕ) → AllByRecursion (λ k. 64 * nat_abs (coefficient c z k) ≤ squares c + 1024 * squares z) ks
  all_coefficients c z [] = tt
  all_coefficients c z (k ∷ ks) = (coefficient_squares c z k, all_coefficients c z ks)

  product_squares : (c z : List ℤ) → AllByRecursion (λ t. 64 * nat_abs t ≤ squares c + 1024 * squares z) (product c z)
  unfolding product
  product_squares c z = All-map _ (coefficient c z) (range_with_len 0 (length c)) (all_coefficients c z (range_with_len 0 (length c)))

  sums : (A B : ℕ) (p q : List ℤ) → A + B ≤ 53761024 → AllByRecursion (λ t. 64 * nat_abs t ≤ A) p → AllByRecursion (λ t. 64 * nat_abs t ≤ B) q → Bounded 840016 (sum p q)
  unfolding sum
  sums A B [] q h hp hq = tt
  sums A B (s ∷ p) [] h hp hq = tt
  sums A B (s ∷ p) (t ∷ q) h hp hq = (omega (arith, hp.0, hq.0, abs_sum s t), sums A B p q h hp.1 hq.1)

  pub row_bounded : Bounded 840016 (sum (product a x) (product b y))
  row_bounded =
      sums (squares a + 1024 * squares x) (squares b + 1024 * squares y) (product a x) (product b y)
      (omega (arith, squares_within a small-a, squares_within b small_b)) (product_squares a x) (product_squares b y)
