-- 2×2 matrices of elements: products, determinants, inverses.
use Rattle.std.proofs.Common.{◌≡◌, ℕ, ap, ◌∙◌}
use Rattle.algebra.proofs.Elements.{El, ◌⊕◌, ⊖, 𝟎, 𝟏, ⊕_neg}
use Rattle.algebra.proofs.Products.{◌⊗◌}
use Rattle.algebra.proofs.Rings.{ring}

pub record Mat (m : ℕ) : Type 0 where
  pub a : El m
  pub b : El m
  pub c : El m
  pub d : El m

pub record Vec (m : ℕ) : Type 0 where
  pub x : El m
  pub y : El m

abbrev pub mat : {m : ℕ} → El m → El m → El m → El m → Mat m
mat p q r s = record { a = p; b = q; c = r; d = s }

abbrev pub vec : {m : ℕ} → El m → El m → Vec m
vec p q = record { x = p; y = q }

pub same_mat : {m : ℕ} (M N : Mat m) → M.a ≡ N.a → M.b ≡ N.b → M.c ≡ N.c → M.d ≡ N.d → M ≡ N
same_mat M N p q r s = ap (λ t. mat t M.b M.c M.d) p ∙ ap (λ t. mat N.a t M.c M.d) q ∙ ap (λ t. mat N.a N.b t M.d) r
    ∙ ap (λ t. mat N.a N.b N.c t) s

pub same_vec : {m : ℕ} (v w : Vec m) → v.x ≡ w.x → v.y ≡ w.y → v ≡ w
same_vec v w p q = ap (λ t. vec t v.y) p ∙ ap (λ t. vec w.x t) q

module _ {m : ℕ} where
  infixl 70 ◌⊙◌
  infixl 70 ◌▷◌
  unfoldable pub ◌⊙◌ : Mat m → Mat m → Mat m
  M ⊙ N = mat (M.a ⊗ N.a ⊕ M.b ⊗ N.c) (M.a ⊗ N.b ⊕ M.b ⊗ N.d) (M.c ⊗ N.a ⊕ M.d ⊗ N.c) (M.c ⊗ N.b ⊕ M.d ⊗ N.d)

  unfoldable pub ◌▷◌ : Mat m → Vec m → Vec m
  M ▷ v = record { x = M.a ⊗ v.x ⊕ M.b ⊗ v.y; y = M.c ⊗ v.x ⊕ M.d ⊗ v.y }

  unfoldable pub unit : Mat m
  unit = mat 𝟏 𝟎 𝟎 𝟏

  unfoldable pub det : Mat m → El m
  det M = M.a ⊗ M.d ⊕ ⊖ (M.c ⊗ M.b)

  unfoldable pub turned_over : Mat m → Mat m
  turned_over M = mat M.d (⊖ M.b) (⊖ M.c) M.a

  pub ⊙_assoc : (L M N : Mat m) → (L ⊙ M) ⊙ N ≡ L ⊙ (M ⊙ N)
  unfolding ◌⊙◌
  ⊙_assoc L M N = same_mat _ _ (simp ring) (simp ring) (simp ring) (simp ring)

  pub ▷_assoc : (L M : Mat m) (v : Vec m) → (L ⊙ M) ▷ v ≡ L ▷ (M ▷ v)
  unfolding ◌⊙◌ ◌▷◌
  ▷_assoc L M v = same_vec _ _ (simp ring) (simp ring)

  pub ⊙_unit : (M : Mat m) → M ⊙ unit ≡ M
  unfolding ◌⊙◌ unit
  ⊙_unit M = same_mat _ _ (simp ring) (simp ring) (simp ring) (simp ring)

  pub unit_⊙ : (M : Mat m) → unit ⊙ M ≡ M
  unfolding ◌⊙◌ unit
  unit_⊙ M = same_mat _ _ (simp ring) (simp ring) (simp ring) (simp ring)

  pub unit_▷ : (v : Vec m) → unit ▷ v ≡ v
  unfolding ◌▷◌ unit
  unit_▷ v = same_vec _ _ (simp ring) (simp ring)

  pub over_right : (M : Mat m) → det M ≡ 𝟏 → M ⊙ turned_over M ≡ unit
  unfolding ◌⊙◌ unit det turned_over
  over_right M e =
      let p : M.a ⊗ M.d ⊕ M.b ⊗ ⊖ M.c ≡ M.a ⊗ M.d ⊕ ⊖ (M.c ⊗ M.b) = simp ring in
      let q : M.a ⊗ ⊖ M.b ⊕ M.b ⊗ M.a ≡ 𝟎 = simp (ring, ⊕_neg) in
      let r : M.c ⊗ M.d ⊕ M.d ⊗ ⊖ M.c ≡ 𝟎 = simp (ring, ⊕_neg) in
      let s : M.c ⊗ ⊖ M.b ⊕ M.d ⊗ M.a ≡ M.a ⊗ M.d ⊕ ⊖ (M.c ⊗ M.b) = simp ring in
      same_mat _ _ (p ∙ e) q r (s ∙ e)

  pub over_left : (M : Mat m) → det M ≡ 𝟏 → turned_over M ⊙ M ≡ unit
  unfolding ◌⊙◌ unit det turned_over
  over_left M e =
      let p : M.d ⊗ M.a ⊕ ⊖ M.b ⊗ M.c ≡ M.a ⊗ M.d ⊕ ⊖ (M.c ⊗ M.b) = simp ring in
      let q : M.d ⊗ M.b ⊕ ⊖ M.b ⊗ M.d ≡ 𝟎 = simp (ring, ⊕_neg) in
      let r : ⊖ M.c ⊗ M.a ⊕ M.a ⊗ M.c ≡ 𝟎 = simp (ring, ⊕_neg) in
      let s : ⊖ M.c ⊗ M.b ⊕ M.a ⊗ M.d ≡ M.a ⊗ M.d ⊕ ⊖ (M.c ⊗ M.b) = simp ring in
      same_mat _ _ (p ∙ e) q r (s ∙ e)
