-- Matrices and pairs of lists as matrices and pairs of elements.
use Rattle.std.proofs.Common.{◌≡◌, ℕ, suc, List, ℤ, pos, sym, refl, ap, ◌∙◌}
use Rattle.ring.specs.Elements.{difference, constant}
use Rattle.scheme.specs.Keys.{Basis, IsKey, determinant, form_of}
use Rattle.scheme.specs.Matrices.{Pair, Matrix, PairOf, MatrixOf, applied, composed, identity, starred, basis_of, inverse_of, form_matrix, pairing, squared_length}
use Rattle.algebra.proofs.Elements.{el, same, ◌⊕◌, ⊖, 𝟏, inner, star}
use Rattle.algebra.proofs.Products.{◌⊗◌}
use Rattle.algebra.proofs.Mats.{Mat, Vec, mat, vec, same_mat, ◌⊙◌, ◌▷◌, unit, det, turned_over}
use Rattle.algebra.proofs.Norms.{gram, starry, pair}
use Rattle.algebra.proofs.Laws.{zeros_are}

abbrev pub mat_of : {m : ℕ} (u : Matrix) → MatrixOf (suc m) u → Mat m
mat_of u s = mat (el u.m00 s.size00) (el u.m01 s.size01) (el u.m10 s.size10) (el u.m11 s.size11)

abbrev pub lists : {m : ℕ} → Mat m → Matrix
lists M = record { m00 = M.a.list; m01 = M.b.list; m10 = M.c.list; m11 = M.d.list }

abbrev pub lists_size : {m : ℕ} (M : Mat m) → MatrixOf (suc m) (lists M)
lists_size M = record { size00 = M.a.size; size01 = M.b.size; size10 = M.c.size; size11 = M.d.size }

abbrev pub vec_of : {m : ℕ} (v : Pair) → PairOf (suc m) v → Vec m
vec_of v s = vec (el v.first s.first_size) (el v.second s.second_size)

abbrev pub pairs : {m : ℕ} → Vec m → Pair
pairs v = record { first = v.x.list; second = v.y.list }

pub composed_is : {m : ℕ} (M N : Mat m) → composed (lists M) (lists N) ≡ lists (M ⊙ N)
unfolding composed ◌⊙◌ ◌⊗◌ ◌⊕◌
composed_is M N = refl

pub applied_is : {m : ℕ} (M : Mat m) (v : Vec m) → applied (lists M) (pairs v) ≡ pairs (M ▷ v)
unfolding applied ◌▷◌ ◌⊗◌ ◌⊕◌
applied_is M v = refl

pub pairing_is : {m : ℕ} (v w : Vec m) → pairing (pairs v) (pairs w) ≡ pair v w
unfolding pairing pair inner
pairing_is v w = refl

pub length_is : {m : ℕ} (v : Vec m) → squared_length (pairs v) ≡ pair v v
unfolding squared_length
length_is v = pairing_is v v

pub unit_is : (m : ℕ) → lists (unit {m = m}) ≡ identity (suc m)
unfolding unit identity 𝟏
unit_is m = ap (λ (z : List ℤ). record { m00 = constant (suc m) (pos 1); m01 = z; m10 = z; m11 = constant (suc m) (pos 1) }) (zeros_are m)

pub same_lists : {m : ℕ} (M N : Mat m) → lists M ≡ lists N → M ≡ N
same_lists M N e = same_mat M N (same _ _ (ap (λ (u : Matrix). u.m00) e)) (same _ _ (ap (λ (u : Matrix). u.m01) e))
    (same _ _ (ap (λ (u : Matrix). u.m10) e)) (same _ _ (ap (λ (u : Matrix). u.m11) e))

-- ---- a basis
pub key_size : (n : ℕ) (b : Basis) → IsKey n b → MatrixOf n (basis_of b)
unfolding basis_of
key_size n b k = record { size00 = k.f_size; size01 = k.F_size; size10 = k.g_size; size11 = k.G_size }

pub det_is : {m : ℕ} (b : Basis) (s : MatrixOf (suc m) (basis_of b)) → determinant b ≡ constant (suc m) (pos 1) → det (mat_of (basis_of b) s) ≡ 𝟏
unfolding det determinant difference basis_of ◌⊗◌ ◌⊕◌ ⊖ 𝟏
det_is b s e = same _ _ e

pub inverse_is : {m : ℕ} (b : Basis) (s : MatrixOf (suc m) (basis_of b)) → inverse_of b ≡ lists (turned_over (mat_of (basis_of b) s))
unfolding inverse_of basis_of turned_over ⊖
inverse_is b s = refl

pub form_is : {m : ℕ} (b : Basis) (s : MatrixOf (suc m) (basis_of b)) → form_matrix (form_of b) ≡ lists (gram (mat_of (basis_of b) s))
unfolding form_matrix form_of basis_of gram ◌⊗◌ ◌⊕◌ star
form_is b s = refl

pub starred_is : {m : ℕ} (M : Mat m) → starred (lists M) ≡ lists (starry M)
unfolding starred starry star
starred_is M = refl

pub same_grams : {m : ℕ} (b b' : Basis) (s : MatrixOf (suc m) (basis_of b)) (s' : MatrixOf (suc m) (basis_of b')) → form_of b ≡ form_of b' →
    gram (mat_of (basis_of b) s) ≡ gram (mat_of (basis_of b') s')
same_grams b b' s s' e = same_lists _ _ (sym (form_is b s) ∙ ap form_matrix e ∙ form_is b' s')
