-- The sum of the squares of a sample.
use Rattle.std.proofs.Common.{◌≡◌, ℕ, ◌*◌, ◌<◌, ◌≤◌, true, ◌⊎◌, List, [], ◌∷◌, take, drop, ℤ, pos, negsuc, ◌+ℤ◌, ◌*ℤ◌, nat_abs, sum_by, sym, refl, ap, ◌∙◌, inl, inr, mul-le-mul, arith}
use Rattle.std.proofs.lemmas.List.Sums.{sum_by-cons, sum_by-take-drop}
use Rattle.std.proofs.lemmas.Bool.{le-leb, and_from, cases_lt}
use Rattle.ring.specs.Elements.{dot}
use Rattle.ring.specs.Classes.{bound_of}
use Rattle.ring.specs.declared.class.Class.{Class}
use Rattle.ring.specs.declared.class.Class.TheVariants.{One, Two, Three, Four}
use Rattle.scheme.specs.Keys.{within, all_within}
use Rattle.scheme.specs.Matrices.{pairing, squared_length}
use Rattle.scheme.specs.Pairs.{pair_from}
use Rattle.scheme.specs.Signing.{length_of}
use Rattle.signing.specs.Rows.{sample_limit}

abbrev pub square : ℤ → ℕ
square z = nat_abs z * nat_abs z

abbrev pub squares : List ℤ → ℕ
squares xs = sum_by square xs

square_is : (z : ℤ) → z *ℤ z ≡ pos (square z)
square_is (pos n) = refl
square_is (negsuc n) = refl

dot_self : (xs : List ℤ) → dot xs xs ≡ pos (squares xs)
unfolding dot
dot_self [] = refl
dot_self (x ∷ xs) = rw (square_is x, dot_self xs) (ap pos (sym (sum_by-cons square x xs)))

pub squares_of : (xs : List ℤ) → squares xs ≡ nat_abs (dot xs xs)
squares_of xs = sym (ap nat_abs (dot_self xs))

-- the squared length of a pair
pub length_is : (n : ℕ) (xs : List ℤ) → nat_abs (dot xs xs) ≡ length_of (pair_from n xs)
unfolding length_of squared_length pairing pair_from
length_is n xs =
    ap nat_abs (dot_self xs)
    ∙ sym (sum_by-take-drop square xs n)
    ∙ sym (ap nat_abs (ap (λ z. z +ℤ dot (drop n xs) (drop n xs)) (dot_self (take n xs)) ∙ ap (λ z. pos (squares (take n xs)) +ℤ z) (dot_self (drop n xs))))

-- no number of a sample within its bound is above 142 in size
root_small : (z : ℤ) → square z ≤ 20243 → nat_abs z ≤ sample_limit
root_small z h = go (cases_lt (nat_abs z) 143)
  where
    go : (nat_abs z < 143) ⊎ (143 ≤ nat_abs z) → nat_abs z ≤ sample_limit
    go (inl l) = omega arith
    go (inr l) = absurd (let above : 143 * 143 ≤ nat_abs z * nat_abs z = mul-le-mul l l in omega arith)

pub all_small : (xs : List ℤ) → squares xs ≤ 20243 → all_within sample_limit xs ≡ true
all_small [] h = refl
all_small (x ∷ xs) h =
    let parts = sum_by-cons square x xs in
    and_from (within sample_limit x) (all_within sample_limit xs) (le-leb (nat_abs x) sample_limit (root_small x (omega arith))) (all_small xs (omega arith))

bound_small : (class : Class) → bound_of class ≤ 20243
bound_small One = omega arith
bound_small Two = omega arith
bound_small Three = omega arith
bound_small Four = omega arith

pub parts_small : (class : Class) (n : ℕ) (xs : List ℤ) → length_of (pair_from n xs) ≤ bound_of class → (all_within sample_limit (take n xs) ≡ true) × (all_within sample_limit (drop n xs) ≡ true)
parts_small class n xs h =
    let whole = length_is n xs in
    let is = ap nat_abs (dot_self xs) in
    let parts = sum_by-take-drop square xs n in
    let bound = bound_small class in
    (all_small (take n xs) (omega arith), all_small (drop n xs) (omega arith))
