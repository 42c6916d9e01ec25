-- Doubles and halves of numbers and lists, and what they have to do with parity.
use Rattle.std.proofs.Common.{◌≡◌, ℕ, suc, ◌+◌, ◌*◌, ◌/◌, ◌≤◌, List, [], ◌∷◌, map, length, ℤ, pos, negsuc, ◌-ℤ◌, neg_ℤ, nat_abs, refl, ap, ◌∙◌, arith}
use lib.IntN.{+ℤ_invr}
use borrow.Author.Differences.{up, down, same_in, sum_is_lem, neg_is, product_is, abs_is}
use Rattle.ring.specs.Elements.{sum, negative, difference}
use Rattle.ring.specs.Kinds.{rest}
use Rattle.ring.proofs.Residues.{same_sum, differ_same}
use Rattle.ring.proofs.Sizes.{Bounded}
use Rattle.scheme.specs.Pairs.{twice, half}

-- ---- numbers
even_whole : (z : ℤ) → rest 2 z ≡ 0 → twice (half z) ≡ z
unfolding rest
even_whole (pos a) e = ap pos (omega arith)
even_whole (negsuc a) e = let whole : 2 * suc (a / 2) ≡ suc a = omega arith in ap (λ k. neg_ℤ (pos k)) whole

half_twice : (z : ℤ) → half (twice z) ≡ z
half_twice (pos a) = ap pos (omega arith)
half_twice (negsuc a) = let e : 2 * suc a ≡ suc (2 * a + 1) = omega arith in rw e (ap negsuc (omega arith))

even_difference : (x y : ℤ) → rest 2 x ≡ rest 2 y → rest 2 (x -ℤ y) ≡ 0
even_difference x y e = same_sum 2 x y (neg_ℤ y) (neg_ℤ y) (omega arith) e refl ∙ ap (rest 2) (+ℤ_invr y) ∙ unfold rest in refl

take_away : (x y : ℤ) → x -ℤ (x -ℤ y) ≡ y
take_away x y = same_in _ _ (omega (arith, sum_is_lem x (neg_ℤ (x -ℤ y)), neg_is (x -ℤ y), sum_is_lem x (neg_ℤ y), neg_is y))

less_half : (x y : ℤ) → rest 2 x ≡ rest 2 y → x -ℤ twice (half (x -ℤ y)) ≡ y
less_half x y e = ap (λ t. x -ℤ t) (even_whole (x -ℤ y) (even_difference x y e)) ∙ take_away x y

half_less_lem : (x y : ℤ) → half (x -ℤ (x -ℤ twice y)) ≡ y
half_less_lem x y = ap half (take_away x (twice y)) ∙ half_twice y

rest_negative : (z : ℤ) → rest 2 (neg_ℤ z) ≡ rest 2 z
rest_negative z = differ_same 2 (neg_ℤ z) z (omega arith) (up z, down z, omega (arith, neg_is z))

rest_less : (x y : ℤ) → rest 2 (x -ℤ twice y) ≡ rest 2 x
rest_less x y =
    differ_same 2 (x -ℤ twice y) x (omega arith)
    (up y, down y, omega (arith, sum_is_lem x (neg_ℤ (twice y)), neg_is (twice y), product_is (pos 2) y))

-- a bit less twice z is small, so z is
half_small : (k : ℕ) (z : ℤ) → k ≤ 1 → nat_abs (pos k -ℤ twice z) ≤ 840016 → nat_abs z ≤ 524287
half_small k z h e =
    omega (arith, abs_is (pos k -ℤ twice z), abs_is z, sum_is_lem (pos k) (neg_ℤ (twice z)), neg_is (twice z), product_is (pos 2) z)

-- ---- lists
difference_cons : (x y : ℤ) (a b : List ℤ) → difference (x ∷ a) (y ∷ b) ≡ (x -ℤ y) ∷ difference a b
unfolding difference sum negative
difference_cons x y a b = refl

pub list_less_half : (a b : List ℤ) → map (rest 2) a ≡ map (rest 2) b → difference a (map twice (map half (difference a b))) ≡ b
list_less_half [] [] e = unfold difference sum in refl
list_less_half [] (y ∷ b) e = let z : ◌≡◌ {A = ℕ} 0 1 = cc in absurd (omega arith)
list_less_half (x ∷ a) [] e = let z : ◌≡◌ {A = ℕ} 0 1 = cc in absurd (omega arith)
list_less_half (x ∷ a) (y ∷ b) e =
    let one : x -ℤ twice (half (x -ℤ y)) ≡ y = less_half x y (cc) in
    let more : difference a (map twice (map half (difference a b))) ≡ b = list_less_half a b (cc) in
    rw (difference_cons x y a b, difference_cons x (twice (half (x -ℤ y))) a (map twice (map half (difference a b))), one, more)

pub list_half_less : (a b : List ℤ) → length a ≡ length b → map half (difference a (difference a (map twice b))) ≡ b
list_half_less [] [] e = unfold difference sum in refl
list_half_less [] (y ∷ b) e = absurd (omega arith)
list_half_less (x ∷ a) [] e = absurd (omega arith)
list_half_less (x ∷ a) (y ∷ b) e =
    let more : map half (difference a (difference a (map twice b))) ≡ b = list_half_less a b (omega arith) in
    rw (difference_cons x (twice y) a (map twice b), difference_cons x (x -ℤ twice y) a (difference a (map twice b)), half_less_lem x y, more)

pub list_rest_less : (a b : List ℤ) → length a ≡ length b → map (rest 2) (difference a (map twice b)) ≡ map (rest 2) a
list_rest_less [] [] e = unfold difference sum in refl
list_rest_less [] (y ∷ b) e = absurd (omega arith)
list_rest_less (x ∷ a) [] e = absurd (omega arith)
list_rest_less (x ∷ a) (y ∷ b) e = rw (difference_cons x (twice y) a (map twice b), rest_less x y, list_rest_less a b (omega arith))

pub list_rest_negative : (a : List ℤ) → map (rest 2) (negative a) ≡ map (rest 2) a
unfolding negative
list_rest_negative [] = refl
list_rest_negative (x ∷ a) = rw (rest_negative x, list_rest_negative a)

pub list_half_small : (f : ℕ → ℕ) (ks : List ℕ) (b : List ℤ) → ((k : ℕ) → f k ≤ 1) → length ks ≡ length b
    → Bounded 840016 (difference (map (λ k. pos (f k)) ks) (map twice b)) → Bounded 524287 b
list_half_small f [] [] h e d = tt
list_half_small f [] (y ∷ b) h e d = absurd (omega arith)
list_half_small f (k ∷ ks) [] h e d = absurd (omega arith)
list_half_small f (k ∷ ks) (y ∷ b) h e d =
    let parts : Bounded 840016 ((pos (f k) -ℤ twice y) ∷ difference (map (λ k. pos (f k)) ks) (map twice b)) =
    rw (difference_cons (pos (f k)) (twice y) (map (λ k. pos (f k)) ks) (map twice b)) at d in
    (half_small (f k) y (h k) parts.0, list_half_small f ks b h (omega arith) parts.1)
