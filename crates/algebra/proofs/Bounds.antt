-- How large the numbers of products are, and that a key's form is a form.
use Rattle.std.proofs.Common.{◌≡◌, ℕ, suc, ◌+◌, ◌*◌, ◌≤◌, List, [], ◌∷◌, reverse, length, take, drop, ℤ, pos, negsuc, ◌+ℤ◌, ◌*ℤ◌, neg_ℤ, nat_abs, refl, ap, ◌∙◌, mul-le-mul, arith, length-drop, length-take}
use borrow.Author.Differences.{abs_is, sum_is_lem}
use Rattle.std.specs.List.{range_with_len, AllByRecursion}
use Rattle.std.proofs.ByRecursion.{All-append, All-take, All-drop, All-map, All-weaker}
use Rattle.std.proofs.lemmas.Bool.{leb-true, le-leb}
use Rattle.ring.specs.Elements.{dot, crossed, coefficient, product, sum, negative, adjoint}
use Rattle.scheme.specs.Keys.{Within, key_limit, form_limit, form_of}
use Rattle.algebra.specs.Counting.{FormsOfKeys}
use Rattle.algebra.proofs.Sizes.{length_sum, length_product, length_adjoint}
use Rattle.algebra.proofs.Lists.{reverse_cons}
use Rattle.algebra.proofs.Moves.{abs_neg}
use Rattle.algebra.proofs.Forms.{q00_selfadjoint, q11_selfadjoint}

abs_sum : (x y : ℤ) → nat_abs (x +ℤ y) ≤ nat_abs x + nat_abs y
abs_sum x y = omega (arith, abs_is (x +ℤ y), abs_is x, abs_is y, sum_is_lem x y)

abs_product : (x y : ℤ) → nat_abs (x *ℤ y) ≡ nat_abs x * nat_abs y
abs_product (pos a) (pos b) = refl
abs_product (pos a) (negsuc b) = abs_neg (pos (a * suc b))
abs_product (negsuc a) (pos b) = abs_neg (pos (suc a * b))
abs_product (negsuc a) (negsuc b) = refl

abs_dot : (m : ℕ) (a b : List ℤ) → AllByRecursion (Within m) a → AllByRecursion (Within m) b → nat_abs (dot a b) ≤ length a * (m * m)
unfolding dot
abs_dot m [] b h k = omega arith
abs_dot m (x ∷ a) [] h k = omega arith
abs_dot m (x ∷ a) (y ∷ b) h k =
    let one : nat_abs x * nat_abs y ≤ m * m = mul-le-mul (leb-true (nat_abs x) m h.0) (leb-true (nat_abs y) m k.0) in
    omega (arith, abs_sum (x *ℤ y) (dot a b), abs_product x y, one, abs_dot m a b h.1 k.1)

all_reverse : {X : Type 0} (P : X → Type 0) (a : List X) → AllByRecursion P a → AllByRecursion P (reverse a)
all_reverse P [] h = tt
all_reverse P (x ∷ a) h = rw (reverse_cons x a) (All-append P (reverse a) (x ∷ []) (all_reverse P a h.1) (h.0, tt))

abs_crossed : (m : ℕ) (a b : List ℤ) → AllByRecursion (Within m) a → AllByRecursion (Within m) b → nat_abs (crossed a b) ≤ length a * (m * m)
unfolding crossed
abs_crossed m a b h k = abs_dot m a (reverse b) h (all_reverse (Within m) b k)

-- each number of a product is at most n·m²
abs_coefficient : (m k : ℕ) (a b : List ℤ) → AllByRecursion (Within m) a → AllByRecursion (Within m) b → nat_abs (coefficient a b k) ≤ length a * (m * m)
unfolding coefficient
abs_coefficient m k a b p q =
    let front = abs_crossed m (take (k + 1) a) (take (k + 1) b) (All-take (Within m) (k + 1) a p) (All-take (Within m) (k + 1) b q) in
    let rear = abs_crossed m (drop (k + 1) a) (drop (k + 1) b) (All-drop (Within m) (k + 1) a p) (All-drop (Within m) (k + 1) b q) in
    let split : length (take (k + 1) a) + length (drop (k + 1) a) ≡ length a = omega (arith, length-take (k + 1) a, length-drop (k + 1) a) in
    omega (
      arith,
      abs_sum (crossed (take (k + 1) a) (take (k + 1) b)) (neg_ℤ (crossed (drop (k + 1) a) (drop (k + 1) b))),
      abs_neg (crossed (drop (k + 1) a) (drop (k + 1) b)),
      front,
      rear,
      ap (λ t. t * (m * m)) split,
    )

pub within_product : (m : ℕ) (a b : List ℤ) → AllByRecursion (Within m) a → AllByRecursion (Within m) b → AllByRecursion (Within (length a * (m * m))) (product a b)
unfolding product
within_product m a b p q = All-map _ (coefficient a b) (range_with_len 0 (length a)) (go (range_with_len 0 (length a)))
  where
    go : (ks : List ℕ) → AllByRecursion (λ k. Within (length a * (m * m)) (coefficient a b k)) ks
    go [] = tt
    go (k ∷ ks) = (le-leb _ _ (abs_coefficient m k a b p q), go ks)

pub within_sum : (m k : ℕ) (a b : List ℤ) → AllByRecursion (Within m) a → AllByRecursion (Within k) b → AllByRecursion (Within (m + k)) (sum a b)
unfolding sum
within_sum m k [] b p q = tt
within_sum m k (x ∷ a) [] p q = tt
within_sum m k (x ∷ a) (y ∷ b) p q =
    (le-leb _ _ (omega (arith, abs_sum x y, leb-true (nat_abs x) m p.0, leb-true (nat_abs y) k q.0)), within_sum m k a b p.1 q.1)

pub within_negative : (m : ℕ) (a : List ℤ) → AllByRecursion (Within m) a → AllByRecursion (Within m) (negative a)
unfolding negative
within_negative m [] h = tt
within_negative m (x ∷ a) h = (rw (abs_neg x) h.0, within_negative m a h.1)

pub within_adjoint : (m : ℕ) (a : List ℤ) → AllByRecursion (Within m) a → AllByRecursion (Within m) (adjoint a)
unfolding adjoint
within_adjoint m [] h = tt
within_adjoint m (x ∷ a) h = (h.0, unfold negative in within_negative m (reverse a) (all_reverse (Within m) a h.1))

-- a*·b + c*·d for small a, b, c, d
within_form : (n : ℕ) (a b c d : List ℤ) → n ≤ 1024 → length a ≡ n → length c ≡ n →
    AllByRecursion (Within key_limit) a → AllByRecursion (Within key_limit) b → AllByRecursion (Within key_limit) c → AllByRecursion (Within key_limit) d →
    AllByRecursion (Within form_limit) (sum (product (adjoint a) b) (product (adjoint c) d))
within_form n a b c d h p q ha hb hc hd =
    All-weaker _ (Within form_limit) (λ z w. le-leb _ _ (omega (arith, leb-true _ _ w, length_adjoint a, length_adjoint c)))
    (sum (product (adjoint a) b) (product (adjoint c) d))
    (within_sum _ _ (product (adjoint a) b) (product (adjoint c) d)
    (within_product key_limit (adjoint a) b (within_adjoint key_limit a ha) hb) (within_product key_limit (adjoint c) d (within_adjoint key_limit c hc) hd))

-- the form of a key is a form
pub forms_of_keys : FormsOfKeys
unfolding form_of
forms_of_keys n b h l k = record {
  q00_size = sized b.f b.f b.g b.g k.f_size k.g_size;
  q01_size = sized b.f b.F b.g b.G k.f_size k.g_size;
  q11_size = sized b.F b.F b.G b.G k.F_size k.G_size;
  q00_small = within_form n b.f b.f b.g b.g l k.f_size k.g_size k.f_small k.f_small k.g_small k.g_small;
  q01_small = within_form n b.f b.F b.g b.G l k.f_size k.g_size k.f_small k.F_small k.g_small k.G_small;
  q11_small = within_form n b.F b.F b.G b.G l k.F_size k.G_size k.F_small k.F_small k.G_small k.G_small;
  q00_selfadjoint = q00_selfadjoint n b h k.f_size k.g_size;
  q11_selfadjoint = q11_selfadjoint n b h k.F_size k.G_size;
}
  where
    sized : (a b c d : List ℤ) → length a ≡ n → length c ≡ n → length (sum (product (adjoint a) b) (product (adjoint c) d)) ≡ n
    sized a b c d p q =
        length_sum (product (adjoint a) b) (product (adjoint c) d) n
        (length_product (adjoint a) b ∙ length_adjoint a ∙ p) (length_product (adjoint c) d ∙ length_adjoint c ∙ q)
