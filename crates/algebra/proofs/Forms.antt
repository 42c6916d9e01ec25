-- The adjoint of a*·b is b*·a, and a form's q00 and q11 are their own adjoints.
use Rattle.std.proofs.Common.{◌≡◌, ℕ, zero, suc, ◌<◌, List, length, ℤ, sym, ap, ◌∙◌, arith}
use Rattle.ring.specs.Elements.{product, sum, adjoint}
use Rattle.scheme.specs.Keys.{Basis, form_of}
use Rattle.algebra.proofs.Sizes.{length_product, length_adjoint}
use Rattle.algebra.proofs.Elements.{El, el, ◌⊕◌, star}
use Rattle.algebra.proofs.Adjoints.{star_linear, star_star}
use Rattle.algebra.proofs.Products.{◌⊗◌, ⊗_comm, star_product}

pub star_of_star_product : {m : ℕ} (a b : El m) → star (star a ⊗ b) ≡ star b ⊗ a
star_of_star_product a b = star_product (star a) b ∙ ap (λ t. t ⊗ star b) (star_star a) ∙ ⊗_comm a (star b)

pub adjoint_product : (n : ℕ) (a b : List ℤ) → 0 < n → length a ≡ n → length b ≡ n → adjoint (product (adjoint a) b) ≡ product (adjoint b) a
unfolding star ◌⊗◌
adjoint_product zero a b h p q = absurd (omega arith)
adjoint_product (suc m) a b h p q = ap (λ e. e.list) (star_of_star_product (el a p) (el b q))

pub adjoint_sum : (n : ℕ) (a b : List ℤ) → 0 < n → length a ≡ n → length b ≡ n → adjoint (sum a b) ≡ sum (adjoint a) (adjoint b)
unfolding star ◌⊕◌
adjoint_sum zero a b h p q = absurd (omega arith)
adjoint_sum (suc m) a b h p q = ap (λ e. e.list) (star_linear.of_sum (el a p) (el b q))

-- a*·a + b*·b is its own adjoint
pub square_selfadjoint : (n : ℕ) (a b : List ℤ) → 0 < n → length a ≡ n → length b ≡ n →
    sum (product (adjoint a) a) (product (adjoint b) b) ≡ adjoint (sum (product (adjoint a) a) (product (adjoint b) b))
square_selfadjoint n a b h p q =
    sym (adjoint_sum n (product (adjoint a) a) (product (adjoint b) b) h (length_product (adjoint a) a ∙ length_adjoint a ∙ p)
    (length_product (adjoint b) b ∙ length_adjoint b ∙ q)
    ∙ rw (adjoint_product n a a h p p, adjoint_product n b b h q q))

pub q00_selfadjoint : (n : ℕ) (b : Basis) → 0 < n → length b.f ≡ n → length b.g ≡ n → (form_of b).q00 ≡ adjoint (form_of b).q00
unfolding form_of
q00_selfadjoint n b h p q = square_selfadjoint n b.f b.g h p q

pub q11_selfadjoint : (n : ℕ) (b : Basis) → 0 < n → length b.F ≡ n → length b.G ≡ n → (form_of b).q11 ≡ adjoint (form_of b).q11
unfolding form_of
q11_selfadjoint n b h p q = square_selfadjoint n b.F b.G h p q
