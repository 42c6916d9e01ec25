-- How large the integers of a product can be.
use Rattle.std.proofs.Common.{◌≡◌, ℕ, suc, ◌+◌, ◌*◌, ◌^◌, ◌<◌, ◌≤◌, List, [], ◌∷◌, map, reverse, length, take, drop, ℤ, pos, negsuc, ◌+ℤ◌, ◌*ℤ◌, neg_ℤ, nat_abs, sym, refl, ap, ◌∙◌, add-mul, mul-le-mul, arith, w32, w64, SFits}
use mathlib.Core.List.{reverse-cons}
use borrow.Author.Differences.{abs_is, sum_is_lem, neg_is}
use Rattle.std.specs.List.{AllByRecursion}
use Rattle.std.proofs.lemmas.List.{length-append, take-append-drop}
use Rattle.std.proofs.ByRecursion.{All-take, All-drop, All-push}
use Rattle.ring.specs.Elements.{dot, crossed, coefficient, adjoint}

-- the numbers of a list are at most m in size
abbrev pub Bounded : ℕ → List ℤ → Type 0
Bounded m xs = AllByRecursion (λ z. nat_abs z ≤ m) xs

pub abs_sum : (x y : ℤ) → nat_abs (x +ℤ y) ≤ nat_abs x + nat_abs y
abs_sum x y = omega (arith, abs_is (x +ℤ y), abs_is x, abs_is y, sum_is_lem x y)

pub abs_neg : (x : ℤ) → nat_abs (neg_ℤ x) ≡ nat_abs x
abs_neg x = omega (arith, abs_is (neg_ℤ x), abs_is x, neg_is x)

pub abs_product : (x y : ℤ) → nat_abs (x *ℤ y) ≡ nat_abs x * nat_abs y
abs_product (pos a) (pos b) = refl
abs_product (pos a) (negsuc b) = abs_neg (pos (a * suc b))
abs_product (negsuc a) (pos b) = abs_neg (pos (suc a * b))
abs_product (negsuc a) (negsuc b) = refl

pub fits_word : (z : ℤ) → nat_abs z < 2 ^ 63 → SFits w64 z
fits_word (pos n) h = record { sfits = h }
fits_word (negsuc n) h = record { sfits = omega arith }

pub fits_narrow : (z : ℤ) → nat_abs z < 2 ^ 31 → SFits w32 z
fits_narrow (pos n) h = record { sfits = h }
fits_narrow (negsuc n) h = record { sfits = omega arith }

pub dot_size : (A B : ℕ) (a b : List ℤ) → Bounded A a → Bounded B b → nat_abs (dot a b) ≤ length a * (A * B)
unfolding dot
dot_size A B [] b ha hb = omega arith
dot_size A B (x ∷ a) [] ha hb = omega arith
dot_size A B (x ∷ a) (y ∷ b) ha hb =
    omega (arith, abs_sum (x *ℤ y) (dot a b), abs_product x y, mul-le-mul ha.0 hb.0, dot_size A B a b ha.1 hb.1)

pub bounded_reverse : (m : ℕ) (b : List ℤ) → Bounded m b → Bounded m (reverse b)
bounded_reverse m [] h = tt
bounded_reverse m (x ∷ b) h = rw (reverse-cons x b) (All-push (λ z. nat_abs z ≤ m) (reverse b) x (bounded_reverse m b h.1) h.0)

pub coefficient_size : (A B : ℕ) (a b : List ℤ) (k : ℕ) → Bounded A a → Bounded B b → nat_abs (coefficient a b k) ≤ length a * (A * B)
unfolding coefficient crossed
coefficient_size A B a b k ha hb =
    let straight = dot_size A B (take (k + 1) a) (reverse (take (k + 1) b)) (All-take (λ z. nat_abs z ≤ A) (k + 1) a ha)
    (bounded_reverse B (take (k + 1) b) (All-take (λ z. nat_abs z ≤ B) (k + 1) b hb)) in
    let around = dot_size A B (drop (k + 1) a) (reverse (drop (k + 1) b)) (All-drop (λ z. nat_abs z ≤ A) (k + 1) a ha)
    (bounded_reverse B (drop (k + 1) b) (All-drop (λ z. nat_abs z ≤ B) (k + 1) b hb)) in
    let parts : length (take (k + 1) a) + length (drop (k + 1) a) ≡ length a = sym (length-append (take (k + 1) a) (drop (k + 1) a)) ∙ ap length (take-append-drop (k + 1) a) in
    let scaled : length (take (k + 1) a) * (A * B) + length (drop (k + 1) a) * (A * B) ≡ length a * (A * B) =
    sym (add-mul (length (take (k + 1) a)) (length (drop (k + 1) a)) (A * B)) ∙ ap (λ n. n * (A * B)) parts in
    omega (arith, abs_sum (dot (take (k + 1) a) (reverse (take (k + 1) b))) (neg_ℤ (dot (drop (k + 1) a) (reverse (drop (k + 1) b)))), abs_neg (dot (drop (k + 1) a) (reverse (drop (k + 1) b))), straight, around, scaled)

bounded_map : (m : ℕ) (xs : List ℤ) → Bounded m xs → Bounded m (map neg_ℤ xs)
bounded_map m [] h = tt
bounded_map m (x ∷ xs) h = (rw (abs_neg x) h.0, bounded_map m xs h.1)

pub bounded_adjoint : (m : ℕ) (a : List ℤ) → Bounded m a → Bounded m (adjoint a)
unfolding adjoint
bounded_adjoint m [] h = tt
bounded_adjoint m (x ∷ a) h = (h.0, bounded_map m (reverse a) (bounded_reverse m a h.1))
