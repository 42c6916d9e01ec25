-- The form of a matrix: v with the form times v gives the squared length of the matrix times v.
use Rattle.std.proofs.Common.{◌≡◌, ℕ, ℤ, ◌+ℤ◌, sym, refl, ap, ◌∙◌}
use Rattle.algebra.proofs.Integers.{+ℤ_swap}
use Rattle.algebra.proofs.Elements.{El, ◌⊕◌, inner, star, inner_sum, inner_comm}
use Rattle.algebra.proofs.Products.{◌⊗◌, inner_⊗}
use Rattle.algebra.proofs.Rings.{star_sum}
use Rattle.algebra.proofs.Forms.{star_of_star_product}
use Rattle.algebra.proofs.Mats.{Mat, Vec, mat, same_mat, ◌⊙◌, ◌▷◌, ▷_assoc}

module _ {m : ℕ} where
  unfoldable pub starry : Mat m → Mat m
  starry M = mat (star M.a) (star M.c) (star M.b) (star M.d)

  unfoldable pub gram : Mat m → Mat m
  gram M =
      mat (star M.a ⊗ M.a ⊕ star M.c ⊗ M.c) (star M.a ⊗ M.b ⊕ star M.c ⊗ M.d)
      (star (star M.a ⊗ M.b ⊕ star M.c ⊗ M.d)) (star M.b ⊗ M.b ⊕ star M.d ⊗ M.d)

  unfoldable pub pair : Vec m → Vec m → ℤ
  pair v w = inner v.x w.x +ℤ inner v.y w.y

  -- the form is B*·B
  pub gram_is : (M : Mat m) → gram M ≡ starry M ⊙ M
  unfolding gram starry ◌⊙◌
  gram_is M =
      same_mat _ _ refl refl
      (star_sum (star M.a ⊗ M.b) (star M.c ⊗ M.d) ∙ rw (star_of_star_product M.a M.b, star_of_star_product M.c M.d)) refl

  inner_plus : (u v w : El m) → inner u (v ⊕ w) ≡ inner u v +ℤ inner u w
  inner_plus u v w = inner_comm u (v ⊕ w) ∙ inner_sum v w u ∙ rw (inner_comm v u, inner_comm w u)

  -- ⟨v, M*·w⟩ = ⟨M·v, w⟩
  pub pair_starry : (M : Mat m) (v w : Vec m) → pair v (starry M ▷ w) ≡ pair (M ▷ v) w
  unfolding pair starry ◌▷◌
  pair_starry M v w =
      rw (
        inner_plus v.x (star M.a ⊗ w.x) (star M.c ⊗ w.y),
        inner_plus v.y (star M.b ⊗ w.x) (star M.d ⊗ w.y),
        ← inner_⊗ M.a v.x w.x,
        ← inner_⊗ M.c v.x w.y,
        ← inner_⊗ M.b v.y w.x,
        ← inner_⊗ M.d v.y w.y,
        inner_sum (M.a ⊗ v.x) (M.b ⊗ v.y) w.x,
        inner_sum (M.c ⊗ v.x) (M.d ⊗ v.y) w.y,
      )
      (+ℤ_swap (inner (M.a ⊗ v.x) w.x) (inner (M.c ⊗ v.x) w.y) (inner (M.b ⊗ v.y) w.x) (inner (M.d ⊗ v.y) w.y))

  pub norm_form : (M : Mat m) (v : Vec m) → pair v (gram M ▷ v) ≡ pair (M ▷ v) (M ▷ v)
  norm_form M v = rw (gram_is M, ▷_assoc (starry M) M v) (pair_starry M v (M ▷ v))

  -- two matrices with one form give a pair one squared length
  pub same_norms : (M N : Mat m) → gram M ≡ gram N → (v : Vec m) → pair (M ▷ v) (M ▷ v) ≡ pair (N ▷ v) (N ▷ v)
  same_norms M N e v = sym (norm_form M v) ∙ ap (λ q. pair v (q ▷ v)) e ∙ norm_form N v
