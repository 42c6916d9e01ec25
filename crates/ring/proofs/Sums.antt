-- Sums of products, one pair at a time.
use Rattle.std.proofs.Common.{◌≡◌, ℕ, zero, suc, ◌+◌, ◌<◌, List, [], ◌∷◌, ◌++◌, reverse, length, get_or, take, drop, ℤ, pos, ◌+ℤ◌, ◌*ℤ◌, neg_ℤ, ◌⊎◌, inl, inr, sym, refl, ap, ◌∙◌, arith}
use lib.IntN.{+ℤ_assoc, +ℤ_idl, +ℤ_idr}
use Rattle.std.proofs.lemmas.List.{get_or-map, take-map, drop-map, map_push, reverse-append}
use Rattle.ring.specs.Elements.{dot, crossed, coefficient}
use Rattle.ring.specs.Kinds.{rest, values}
use Rattle.ring.proofs.Residues.{sum_of, negative_of, rest_small, rest_rest, same_sum}

pub dot_more : (a b : List ℤ) (i : ℕ) → i < length a → i < length b → dot (take (suc i) a) (take (suc i) b) ≡ dot (take i a) (take i b) +ℤ get_or a i (pos 0) *ℤ get_or b i (pos 0)
unfolding dot
dot_more [] b i h k = absurd (omega arith)
dot_more (x ∷ a) [] i h k = absurd (omega arith)
dot_more (x ∷ a) (y ∷ b) zero h k = +ℤ_idr (x *ℤ y) ∙ sym (+ℤ_idl (x *ℤ y))
dot_more (x ∷ a) (y ∷ b) (suc i) h k =
    ap (λ t. x *ℤ y +ℤ t) (dot_more a b i (omega arith) (omega arith))
    ∙ sym (+ℤ_assoc (x *ℤ y) (dot (take i a) (take i b)) (get_or a i (pos 0) *ℤ get_or b i (pos 0)))

-- what the numbers of a list mean, at a place
pub values_at : {X : Type 0} (res : X → ℕ) (a : List X) (i : ℕ) (x : X) → i < length a → x ≡ get_or a i x → get_or (values res a) i (pos 0) ≡ pos (res x)
values_at res a i x h e = get_or-map (λ y. pos (res y)) a i x (pos 0) h ∙ ap (λ y. pos (res y)) (sym e)

-- the loop of `cross`: what was summed, with the pairs that are left, is the whole sum
module _ {X : Type 0} (m : ℕ) (res : X → ℕ) where
  crossed_more : (x y : X) (a b : List X) → crossed (values res (x ∷ a)) (values res (b ++ y ∷ [])) ≡ pos (res x) *ℤ pos (res y) +ℤ crossed (values res a) (values res b)
  unfolding crossed dot
  crossed_more x y a b =
      let back : reverse (values res (b ++ y ∷ [])) ≡ pos (res y) ∷ reverse (values res b) =
      ap reverse (map_push (λ z. pos (res z)) b y) ∙ reverse-append (values res b) (pos (res y) ∷ []) in
      ap (dot (values res (x ∷ a))) back

  pub cross_step : (x y : X) (a b p q : List X) (s t u : ℕ) → 0 < m → s < m → p ≡ x ∷ a → q ≡ b ++ y ∷ []
      → t ≡ rest m (pos (res x) *ℤ pos (res y)) → u ≡ rest m (pos s +ℤ pos t)
      → rest m (pos u +ℤ crossed (values res a) (values res b)) ≡ rest m (pos s +ℤ crossed (values res p) (values res q))
  cross_step x y a b p q s t u h below ep eq et eu =
      let xy = pos (res x) *ℤ pos (res y) in
      let left = crossed (values res a) (values res b) in
      let more : u ≡ rest m (pos s +ℤ xy) = sum_of m u s t (pos s) xy h eu (sym (rest_small m s below)) et in
      let same : rest m (pos u) ≡ rest m (pos s +ℤ xy) = ap (λ z. rest m (pos z)) more ∙ rest_rest m (pos s +ℤ xy) h in
      same_sum m (pos u) (pos s +ℤ xy) left left h same refl
      ∙ ap (rest m) (+ℤ_assoc (pos s) xy left ∙ ap (λ z. pos s +ℤ z) (sym (crossed_more x y a b)))
      ∙ rw (ep, eq) refl

  nothing : {P Q : Type 0} (p q : List X) → (P → length p ≡ 0) → (Q → length q ≡ 0) → P ⊎ Q → crossed (values res p) (values res q) ≡ pos 0
  unfolding crossed dot
  nothing [] q f g d = refl
  nothing (x ∷ p) q f g (inl d) = let e = f d in absurd (omega arith)
  nothing (x ∷ p) [] f g (inr d) = refl
  nothing (x ∷ p) (y ∷ q) f g (inr d) = let e = g d in absurd (omega arith)

  -- one of the lists is at its end
  pub cross_end : {P Q : Type 0} (a b p q : List X) (s : ℕ) → s < m → (P → length p ≡ 0) → (Q → length q ≡ 0) → P ⊎ Q
      → rest m (pos s +ℤ crossed (values res p) (values res q)) ≡ rest m (crossed (values res a) (values res b))
      → s ≡ rest m (crossed (values res a) (values res b))
  cross_end a b p q s below f g done e =
      sym (rest_small m s below) ∙ ap (rest m) (sym (+ℤ_idr (pos s))) ∙ ap (λ z. rest m (pos s +ℤ z)) (sym (nothing p q f g done)) ∙ e

-- two sums of products make a coefficient
pub coefficient_from : {X : Type 0} (m : ℕ) (res : X → ℕ) (a b a₁ b₁ a₂ b₂ : List X) (k s t u v : ℕ) → 0 < m
    → a₁ ≡ take (k + 1) a → b₁ ≡ take (k + 1) b → a₂ ≡ drop (k + 1) a → b₂ ≡ drop (k + 1) b
    → s ≡ rest m (crossed (values res a₁) (values res b₁)) → t ≡ rest m (crossed (values res a₂) (values res b₂))
    → u ≡ rest m (neg_ℤ (pos t)) → v ≡ rest m (pos s +ℤ pos u)
    → v ≡ rest m (coefficient (values res a) (values res b) k)
unfolding coefficient
coefficient_from m res a b a₁ b₁ a₂ b₂ k s t u v h ea eb fa fb es et eu ev =
    let S = crossed (take (k + 1) (values res a)) (take (k + 1) (values res b)) in
    let T = crossed (drop (k + 1) (values res a)) (drop (k + 1) (values res b)) in
    let s-is : s ≡ rest m S = rw (take-map (λ x. pos (res x)) (k + 1) a, take-map (λ x. pos (res x)) (k + 1) b, ← ea, ← eb) es in
    let t-is : t ≡ rest m T = rw (drop-map (λ x. pos (res x)) (k + 1) a, drop-map (λ x. pos (res x)) (k + 1) b, ← fa, ← fb) et in
    sum_of m v s u S (neg_ℤ T) h ev s-is (negative_of m u t T h eu t-is)
