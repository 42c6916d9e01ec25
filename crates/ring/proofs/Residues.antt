-- Residues modulo m: what a sum, a negative and a product of residues are the residue of.
use Rattle.std.specs.Prelude.{◌≡◌, ℕ, ◌+◌, ◌*◌, ◌/◌, ◌%◌, ◌<◌, ℤ, pos, negsuc, ◌+ℤ◌, ◌*ℤ◌, neg_ℤ}
use Rattle.std.proofs.Common.{sym, ap, ◌∙◌, mod-lt, div-add-mod', mod-eq_of_lt, arith}
use Rattle.std.proofs.Math.Nat.{add-mul-mod_self_right}
use Rattle.std.proofs.Math.IntN.{*ℤ_comm}
use borrow.Author.Differences.{up, down, sum_is_lem, neg_is, product_is}
use Rattle.ring.specs.Kinds.{rest}
use Rattle.ring.specs.Below.{rest_below}

-- x and y differ by a multiple of m
abbrev pub Differ : ℕ → ℤ → ℤ → Type 0
Differ m x y = (p : ℕ) × (q : ℕ) × (up x + down y + p * m ≡ up y + down x + q * m)

pub rest_differs : (m : ℕ) (z : ℤ) → 0 < m → Differ m (pos (rest m z)) z
unfolding rest
rest_differs m (pos a) h = (a / m, 0, omega (arith, div-add-mod' a m))
rest_differs m (negsuc a) h = (0, a / m + 1, omega (arith, div-add-mod' a m, mod-lt a h))

differ_sym : (m : ℕ) (x y : ℤ) → Differ m x y → Differ m y x
differ_sym m x y d = (d.1, d.0, sym d.2)

differ_trans : (m : ℕ) (x y z : ℤ) → Differ m x y → Differ m y z → Differ m x z
differ_trans m x y z d e = (d.0 + e.0, d.1 + e.1, omega (arith, d.2, e.2))

differ_sum : (m : ℕ) (x x' y y' : ℤ) → Differ m x x' → Differ m y y' → Differ m (x +ℤ y) (x' +ℤ y')
differ_sum m x x' y y' d e = (d.0 + e.0, d.1 + e.1, omega (arith, d.2, e.2, sum_is_lem x y, sum_is_lem x' y'))

differ_neg : (m : ℕ) (x x' : ℤ) → Differ m x x' → Differ m (neg_ℤ x) (neg_ℤ x')
differ_neg m x x' d = (d.1, d.0, omega (arith, d.2, neg_is x, neg_is x'))

differ_times : (m : ℕ) (x x' y : ℤ) → Differ m x x' → Differ m (x *ℤ y) (x' *ℤ y)
differ_times m x x' y d = (
  d.0 * up y + d.1 * down y,
  d.1 * up y + d.0 * down y,
  omega (arith, ap (λ t. t * up y) d.2, ap (λ t. t * down y) d.2, product_is x y, product_is x' y),
)

differ_product : (m : ℕ) (x x' y y' : ℤ) → Differ m x x' → Differ m y y' → Differ m (x *ℤ y) (x' *ℤ y')
differ_product m x x' y y' d e =
    let flipped : Differ m (x' *ℤ y) (x' *ℤ y') = rw (*ℤ_comm x' y, *ℤ_comm x' y') (differ_times m y y' x' e) in
    differ_trans m (x *ℤ y) (x' *ℤ y) (x' *ℤ y') (differ_times m x x' y d) flipped

-- two remainders that differ by a multiple are equal
same_remainder : (m r s : ℕ) → r < m → s < m → Differ m (pos r) (pos s) → r ≡ s
same_remainder m r s h k d =
    let joined : r + d.0 * m ≡ s + d.1 * m = omega (arith, d.2) in
    sym (add-mul-mod_self_right r d.0 m ∙ mod-eq_of_lt h) ∙ ap (λ t. t % m) joined ∙ (add-mul-mod_self_right s d.1 m ∙ mod-eq_of_lt k)

pub differ_same : (m : ℕ) (x y : ℤ) → 0 < m → Differ m x y → rest m x ≡ rest m y
differ_same m x y h d =
    same_remainder m (rest m x) (rest m y) (rest_below m x h) (rest_below m y h)
    (differ_trans m (pos (rest m x)) x (pos (rest m y)) (rest_differs m x h)
    (differ_trans m x y (pos (rest m y)) d (differ_sym m (pos (rest m y)) y (rest_differs m y h))))

pub same_differ : (m : ℕ) (x y : ℤ) → 0 < m → rest m x ≡ rest m y → Differ m x y
same_differ m x y h e =
    differ_trans m x (pos (rest m x)) y (differ_sym m (pos (rest m x)) x (rest_differs m x h))
    (rw e (rest_differs m y h))

-- a residue is its own residue
pub rest_small : (m r : ℕ) → r < m → rest m (pos r) ≡ r
unfolding rest
rest_small m r h = mod-eq_of_lt h

pub rest_rest : (m : ℕ) (z : ℤ) → 0 < m → rest m (pos (rest m z)) ≡ rest m z
rest_rest m z h = rest_small m (rest m z) (rest_below m z h)

-- what a sum, a negative and a product of numbers with given residues are residues of
pub sum_of : (m r s t : ℕ) (x y : ℤ) → 0 < m → r ≡ rest m (pos s +ℤ pos t) → s ≡ rest m x → t ≡ rest m y → r ≡ rest m (x +ℤ y)
sum_of m r s t x y h e p q =
    e ∙ rw (p, q) (differ_same m _ _ h (differ_sum m (pos (rest m x)) x (pos (rest m y)) y (rest_differs m x h) (rest_differs m y h)))

pub negative_of : (m r s : ℕ) (x : ℤ) → 0 < m → r ≡ rest m (neg_ℤ (pos s)) → s ≡ rest m x → r ≡ rest m (neg_ℤ x)
negative_of m r s x h e p = e ∙ rw p (differ_same m _ _ h (differ_neg m (pos (rest m x)) x (rest_differs m x h)))

pub product_of : (m r s t : ℕ) (x y : ℤ) → 0 < m → r ≡ rest m (pos s *ℤ pos t) → s ≡ rest m x → t ≡ rest m y → r ≡ rest m (x *ℤ y)
product_of m r s t x y h e p q =
    e ∙ rw (p, q) (differ_same m _ _ h (differ_product m (pos (rest m x)) x (pos (rest m y)) y (rest_differs m x h) (rest_differs m y h)))

-- equal residues pass through the operations
pub same_sum : (m : ℕ) (x x' y y' : ℤ) → 0 < m → rest m x ≡ rest m x' → rest m y ≡ rest m y' → rest m (x +ℤ y) ≡ rest m (x' +ℤ y')
same_sum m x x' y y' h p q = differ_same m _ _ h (differ_sum m x x' y y' (same_differ m x x' h p) (same_differ m y y' h q))

pub same_negative : (m : ℕ) (x x' : ℤ) → 0 < m → rest m x ≡ rest m x' → rest m (neg_ℤ x) ≡ rest m (neg_ℤ x')
same_negative m x x' h p = differ_same m _ _ h (differ_neg m x x' (same_differ m x x' h p))

pub same_product : (m : ℕ) (x x' y y' : ℤ) → 0 < m → rest m x ≡ rest m x' → rest m y ≡ rest m y' → rest m (x *ℤ y) ≡ rest m (x' *ℤ y')
same_product m x x' y y' h p q = differ_same m _ _ h (differ_product m x x' y y' (same_differ m x x' h p) (same_differ m y y' h q))
