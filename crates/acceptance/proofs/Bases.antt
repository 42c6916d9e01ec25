-- A key's basis B on pairs: its inverse, B*, squared lengths and negatives.
use Rattle.std.proofs.Common.{◌≡◌, ℕ, zero, suc, ◌+◌, ◌<◌, ◌≤◌, pos, sym, ap, ◌∙◌, arith}
use Rattle.ring.specs.Elements.{product, negative, adjoint}
use Rattle.ring.proofs.Places.{length_negative, length_adjoint}
use Rattle.ring.proofs.Sizes.{Bounded}
use Rattle.scheme.specs.Keys.{Basis, IsKey, form_of, key_limit}
use Rattle.scheme.specs.Matrices.{Pair, Matrix, PairOf, MatrixOf, applied, starred, basis_of, inverse_of, pairing, squared_length}
use Rattle.scheme.specs.Pairs.{opposite}
use Rattle.scheme.specs.Signing.{source_of}
use Rattle.scheme.specs.Verdicts.{image_of, length_under}
use Rattle.algebra.proofs.Sizes.{length_sum, length_product}
use Rattle.algebra.proofs.Lists.{negative_sum}
use Rattle.algebra.proofs.Laws.{ring_laws}
use Rattle.algebra.proofs.Mats.{Mat, ◌⊙◌, turned_over, over_left, over_right}
use Rattle.algebra.proofs.Norms.{starry, gram_is}
use Rattle.algebra.proofs.Bridges.{mat_of, lists, vec_of, applied_is, key_size, det_is, inverse_is, form_is, starred_is}
use Rattle.algebra.proofs.Joins.{bases_are_matrices, twice_applied, undone}
use Rattle.algebra.proofs.Bounds.{within_negative, within_adjoint}
use Rattle.acceptance.proofs.Squares.{squares, dot_self, squares_negative, row_bounded}
use Rattle.acceptance.proofs.Points.{same_pair}

pub applied_size : (n : ℕ) (u : Matrix) (v : Pair) → MatrixOf n u → PairOf n (applied u v)
unfolding applied
applied_size n u v s = record {
  first_size = length_sum _ _ n (length_product u.m00 v.first ∙ s.size00) (length_product u.m01 v.second ∙ s.size01);
  second_size = length_sum _ _ n (length_product u.m10 v.first ∙ s.size10) (length_product u.m11 v.second ∙ s.size11);
}

pub applied_opposite : (n : ℕ) (u : Matrix) (v : Pair) → 0 < n → MatrixOf n u → PairOf n v → applied u (opposite v) ≡ opposite (applied u v)
unfolding applied opposite
applied_opposite n u v h s p =
    let back = (ring_laws n h).product_negative in
    same_pair _ _
    (rw (back u.m00 v.first s.size00 p.first_size, back u.m01 v.second s.size01 p.second_size)
    (sym (negative_sum (product u.m00 v.first) (product u.m01 v.second))))
    (rw (back u.m10 v.first s.size10 p.first_size, back u.m11 v.second s.size11 p.second_size)
    (sym (negative_sum (product u.m10 v.first) (product u.m11 v.second))))

pub inverse_size : (n : ℕ) (b : Basis) → IsKey n b → MatrixOf n (inverse_of b)
unfolding inverse_of
inverse_size n b k = record {
  size00 = k.G_size;
  size01 = length_negative b.F ∙ k.F_size;
  size10 = length_negative b.g ∙ k.g_size;
  size11 = k.f_size;
}

-- ---- B and its inverse
pub there_back : (n : ℕ) (b : Basis) → 0 < n → IsKey n b → (x : Pair) → PairOf n x → applied (basis_of b) (source_of b x) ≡ x
unfolding source_of
there_back zero b h k x p = absurd (omega arith)
there_back (suc m) b h k x p =
    let s = key_size (suc m) b k in
    let M : Mat m = mat_of (basis_of b) s in
    ap (λ t. applied (basis_of b) (applied t x)) (inverse_is b s) ∙ undone (turned_over M) M (over_right M (det_is b s k.unit_determinant)) x p

pub back_there : (n : ℕ) (b : Basis) → 0 < n → IsKey n b → (v : Pair) → PairOf n v → source_of b (applied (basis_of b) v) ≡ v
unfolding source_of
back_there zero b h k v p = absurd (omega arith)
back_there (suc m) b h k v p =
    let s = key_size (suc m) b k in
    let M : Mat m = mat_of (basis_of b) s in
    ap (λ t. applied t (applied (basis_of b) v)) (inverse_is b s) ∙ undone M (turned_over M) (over_left M (det_is b s k.unit_determinant)) v p

-- u = B*·(B·v)
pub image_is : (n : ℕ) (b : Basis) → 0 < n → IsKey n b → (v : Pair) → PairOf n v → image_of (form_of b) v ≡ applied (starred (basis_of b)) (applied (basis_of b) v)
unfolding image_of
image_is zero b h k v p = absurd (omega arith)
image_is (suc m) b h k v p =
    let s = key_size (suc m) b k in
    let M : Mat m = mat_of (basis_of b) s in
    ap (λ t. applied t v) (form_is b s ∙ ap lists (gram_is M)) ∙ applied_is (starry M ⊙ M) (vec_of v p) ∙ sym (twice_applied (starry M) M (vec_of v p))
    ∙ ap (λ t. applied t (applied (basis_of b) v)) (sym (starred_is M))

-- ---- squared lengths
pub squared_is : (v : Pair) → squared_length v ≡ pos (squares v.first + squares v.second)
unfolding squared_length pairing
squared_is v = rw (dot_self v.first, dot_self v.second)

pub squared_opposite : (v : Pair) → squared_length (opposite v) ≡ squared_length v
squared_opposite v = squared_is (opposite v) ∙ unfold opposite in rw (squares_negative v.first, squares_negative v.second) (sym (squared_is v))

module _ (n : ℕ) (b : Basis) (some : 0 < n) (key : IsKey n b) where
  pub source_size : (x : Pair) → PairOf n (source_of b x)
  unfolding source_of
  source_size x = applied_size n (inverse_of b) x (inverse_size n b key)

  pub basis_size : (v : Pair) → PairOf n (applied (basis_of b) v)
  basis_size v = applied_size n (basis_of b) v (key_size n b key)

  pub source_opposite : (x : Pair) → PairOf n x → source_of b (opposite x) ≡ opposite (source_of b x)
  unfolding source_of
  source_opposite x p = applied_opposite n (inverse_of b) x some (inverse_size n b key) p

  pub basis_opposite : (v : Pair) → PairOf n v → applied (basis_of b) (opposite v) ≡ opposite (applied (basis_of b) v)
  basis_opposite v p = applied_opposite n (basis_of b) v some (key_size n b key) p

  -- N = ‖B·v‖²
  pub length_is : (v : Pair) → PairOf n v → length_under (form_of b) v ≡ squared_length (applied (basis_of b) v)
  unfolding length_under image_of
  length_is v p = (bases_are_matrices n b some (key_size n b key)).lengths v p

  -- ---- the numbers of B⁻¹·x and of B*·x
  module _ (few : n ≤ 1024) (x : Pair) (short : squares x.first + squares x.second ≤ 20243) where
    pub source_bounded : Bounded 840016 (source_of b x).first × Bounded 840016 (source_of b x).second
    unfolding source_of applied inverse_of
    source_bounded = (
      row_bounded n b.G (negative b.F) x.first x.second few key.G_size (length_negative b.F ∙ key.F_size)
          key.G_small (within_negative key_limit b.F key.F_small) short,
      row_bounded n (negative b.g) b.f x.first x.second few (length_negative b.g ∙ key.g_size) key.f_size
          (within_negative key_limit b.g key.g_small) key.f_small short,
    )

    pub star_bounded : Bounded 840016 (applied (starred (basis_of b)) x).first × Bounded 840016 (applied (starred (basis_of b)) x).second
    unfolding applied starred basis_of
    star_bounded = (
      row_bounded n (adjoint b.f) (adjoint b.g) x.first x.second few (length_adjoint b.f ∙ key.f_size) (length_adjoint b.g ∙ key.g_size)
          (within_adjoint key_limit b.f key.f_small) (within_adjoint key_limit b.g key.g_small) short,
      row_bounded n (adjoint b.F) (adjoint b.G) x.first x.second few (length_adjoint b.F ∙ key.F_size) (length_adjoint b.G ∙ key.G_size)
          (within_adjoint key_limit b.F key.F_small) (within_adjoint key_limit b.G key.G_small) short,
    )
