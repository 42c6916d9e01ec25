-- Elements of squared length 1 are the powers of X and their negatives.
use Rattle.std.proofs.Common.{◌≡◌, ℕ, zero, suc, ◌+◌, ◌-◌, ◌*◌, ◌<◌, ◌≤◌, ◌⊎◌, List, [], ◌∷◌, ◌++◌, length, replicate, ℤ, pos, negsuc, ◌+ℤ◌, ◌*ℤ◌, nat_abs, sym, refl, ap, ◌∙◌, inl, inr, arith}
use Rattle.ring.specs.Elements.{dot, negative, constant}
use Rattle.scheme.specs.Powers.{powered}
use Rattle.algebra.proofs.Lists.{dot_zeros}
use Rattle.algebra.proofs.Elements.{El, same, ⊖, 𝟎, 𝟏, inner, inner_zero}
use Rattle.algebra.proofs.Powers.{turns, powered_constant, negative_zeros, constant_is}

-- the sum of the squares, as a natural number
squares : List ℤ → ℕ
squares [] = 0
squares (x ∷ a) = nat_abs x * nat_abs x + squares a

square : (x : ℤ) → x *ℤ x ≡ pos (nat_abs x * nat_abs x)
square (pos n) = refl
square (negsuc n) = refl

dot_squares : (a : List ℤ) → dot a a ≡ pos (squares a)
unfolding dot squares
dot_squares [] = refl
dot_squares (x ∷ a) = rw (square x, dot_squares a)

none_left : (a : List ℤ) (n : ℕ) → length a ≡ n → squares a ≡ 0 → a ≡ replicate n (pos 0)
unfolding squares
none_left [] zero h e = refl
none_left [] (suc n) h e = absurd (omega arith)
none_left (x ∷ a) zero h e = absurd (omega arith)
none_left (pos zero ∷ a) (suc n) h e = ap {B = List ℤ} (λ l. pos 0 ∷ l) (none_left a n (omega arith) (omega arith))
none_left (pos (suc k) ∷ a) (suc n) h e = absurd (omega arith)
none_left (negsuc k ∷ a) (suc n) h e = absurd (omega arith)

-- one number is 1 or −1, the others are 0
abbrev Single : List ℤ → ℕ → Type 0
Single a n = (k : ℕ) × (k < n) × ((a ≡ replicate k (pos 0) ++ pos 1 ∷ replicate (n - 1 - k) (pos 0)) ⊎
    (a ≡ replicate k (pos 0) ++ negsuc 0 ∷ replicate (n - 1 - k) (pos 0)))

one_left : (a : List ℤ) (n : ℕ) → length a ≡ n → squares a ≡ 1 → Single a n
unfolding squares
one_left [] n h e = absurd (omega arith)
one_left (x ∷ a) zero h e = absurd (omega arith)
one_left (pos zero ∷ a) (suc n) h e =
    let s = one_left a n (omega arith) (omega arith) in
    let i : suc n - 1 - suc s.0 ≡ n - 1 - s.0 = omega arith in (
      suc s.0,
      omega (arith, s.1),
      elim s.2 [
        | inl p ↦ inl (ap {B = List ℤ} (λ l. pos 0 ∷ l) p ∙ ap {B = List ℤ} (λ r. pos 0 ∷ replicate s.0 (pos 0) ++ pos 1 ∷ replicate r (pos 0)) (sym i))
        | inr p ↦ inr (ap {B = List ℤ} (λ l. pos 0 ∷ l) p ∙ ap {B = List ℤ} (λ r. pos 0 ∷ replicate s.0 (pos 0) ++ negsuc 0 ∷ replicate r (pos 0)) (sym i))
      ],
    )
one_left (pos (suc zero) ∷ a) (suc n) h e =
    let i : suc n - 1 - 0 ≡ n = omega arith in
    (0, omega arith, inl (ap {B = List ℤ} (λ l. pos 1 ∷ l) (none_left a n (omega arith) (omega arith) ∙ ap (λ r. replicate r (pos 0)) (sym i))))
one_left (pos (suc (suc k)) ∷ a) (suc n) h e = absurd (omega arith)
one_left (negsuc zero ∷ a) (suc n) h e =
    let i : suc n - 1 - 0 ≡ n = omega arith in
    (0, omega arith, inr (ap {B = List ℤ} (λ l. negsuc 0 ∷ l) (none_left a n (omega arith) (omega arith) ∙ ap (λ r. replicate r (pos 0)) (sym i))))
one_left (negsuc (suc k) ∷ a) (suc n) h e = absurd (omega arith)

negative_single : (k r : ℕ) → negative (replicate k (pos 0) ++ pos 1 ∷ replicate r (pos 0)) ≡ replicate k (pos 0) ++ negsuc 0 ∷ replicate r (pos 0)
unfolding negative
negative_single zero r = ap {B = List ℤ} (λ l. negsuc 0 ∷ l) (unfold negative in negative_zeros r)
negative_single (suc k) r = ap {B = List ℤ} (λ l. pos 0 ∷ l) (negative_single k r)

-- X^k or −X^k, for a k below n
abbrev pub Monomial : {m : ℕ} → El m → Type 0
Monomial {m} a = (k : ℕ) × (k < suc m) × ((a ≡ turns k 𝟏) ⊎ (a ≡ ⊖ (turns k 𝟏)))

from_single : {m : ℕ} (a : El m) → Single a.list (suc m) → Monomial a
unfolding turns 𝟏 ⊖
from_single {m} a s =
    let i : suc m - 1 - s.0 ≡ m - s.0 = omega arith in
    let low : s.0 ≤ m = omega (arith, s.1) in
    let power : powered s.0 (constant (suc m) (pos 1)) ≡ replicate s.0 (pos 0) ++ pos 1 ∷ replicate (suc m - 1 - s.0) (pos 0) =
    powered_constant s.0 m (pos 1) low ∙ ap (λ r. replicate s.0 (pos 0) ++ pos 1 ∷ replicate r (pos 0)) (sym i) in (
      s.0,
      s.1,
      elim s.2 [
        | inl p ↦ inl (same _ _ (p ∙ sym power))
        | inr p ↦ inr (same _ _ (p ∙ sym (ap negative power ∙ negative_single s.0 (suc m - 1 - s.0))))
      ],
    )

inner_none : {m : ℕ} (a : El m) → squares a.list ≡ 0 → a ≡ 𝟎
unfolding 𝟎
inner_none {m} a e = same _ _ (none_left a.list (suc m) a.size e)

-- of two elements whose squared lengths sum to 1, one is a power and the other 0
pub norm_one : {m : ℕ} (p q : El m) → inner p p +ℤ inner q q ≡ pos 1 → (Monomial p × (q ≡ 𝟎)) ⊎ ((p ≡ 𝟎) × Monomial q)
unfolding inner
norm_one {m} p q e =
    let w : dot p.list p.list +ℤ dot q.list q.list ≡ pos (squares p.list + squares q.list) = rw (dot_squares p.list, dot_squares q.list) in
    split (squares p.list) refl (ap nat_abs (sym w ∙ e))
  where
    split : (s : ℕ) → squares p.list ≡ s → squares p.list + squares q.list ≡ 1 → (Monomial p × (q ≡ 𝟎)) ⊎ ((p ≡ 𝟎) × Monomial q)
    split zero h k = inr (inner_none p h, from_single q (one_left q.list (suc m) q.size (omega arith)))
    split (suc s) h k = inl (from_single p (one_left p.list (suc m) p.size (omega arith)), inner_none q (omega arith))

pub one_norm : (m : ℕ) → inner 𝟏 (𝟏 {m = m}) ≡ pos 1
unfolding inner 𝟏
one_norm m = rw (constant_is m (pos 1)) (unfold dot in rw (dot_zeros m (replicate m (pos 0))))

pub one_apart : {m : ℕ} → 𝟏 {m = m} ≡ 𝟎 → ⊥
one_apart {m} e = let z : ◌≡◌ {A = ℕ} 1 0 = ap nat_abs (sym (one_norm m) ∙ ap (λ t. inner t 𝟏) e ∙ inner_zero 𝟏) in omega arith
