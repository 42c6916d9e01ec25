-- Bases as matrices, and what joins two keys with one form. Assumes nothing.
use Rattle.std.specs.Prelude.{◌≡◌, ℕ, ◌<◌, ◌⊎◌, List, map, ℤ, pos}
use Rattle.std.specs.List.Sorted.{IsPermutation}
use Rattle.ring.specs.Elements.{negative, constant}
use Rattle.ring.specs.Kinds.{rest}
use Rattle.scheme.specs.Keys.{Basis, IsKey, determinant, form_of}
use Rattle.scheme.specs.Powers.{powered}
use Rattle.scheme.specs.Matrices.{Pair, Matrix, PairOf, MatrixOf, applied, composed, identity, starred, basis_of, inverse_of, form_matrix, pairing, squared_length, magnitudes}

-- a basis of determinant one and its inverse; its form
pub record MatrixLaws (n : ℕ) (b : Basis) : Type 0 where
  pub inverse_right : determinant b ≡ constant n (pos 1) → composed (basis_of b) (inverse_of b) ≡ identity n
  pub inverse_left : determinant b ≡ constant n (pos 1) → composed (inverse_of b) (basis_of b) ≡ identity n
  -- the form is B*·B
  pub form_is : form_matrix (form_of b) ≡ composed (starred (basis_of b)) (basis_of b)
  -- v with the form times v gives the squared length of B·v
  pub lengths : (v : Pair) → PairOf n v → pairing v (applied (form_matrix (form_of b)) v) ≡ squared_length (applied (basis_of b) v)

-- X^k or −X^k for some k below n
abbrev pub Power : ℕ → List ℤ → Type 0
Power n a = (k : ℕ) × (k < n) × ((a ≡ powered k (constant n (pos 1))) ⊎ (a ≡ negative (powered k (constant n (pos 1)))))

-- two elements, in different rows and columns, are powers, and the others are 0
abbrev pub Moves : ℕ → Matrix → Type 0
Moves n u =
    (Power n u.m00 × (u.m01 ≡ constant n (pos 0)) × (u.m10 ≡ constant n (pos 0)) × Power n u.m11)
    ⊎ ((u.m00 ≡ constant n (pos 0)) × Power n u.m01 × Power n u.m10 × (u.m11 ≡ constant n (pos 0)))

-- congruent modulo d, number by number
abbrev pub Congruent : ℕ → Pair → Pair → Type 0
Congruent d v w = (map (rest d) v.first ≡ map (rest d) w.first) × (map (rest d) v.second ≡ map (rest d) w.second)

-- the matrix times a pair, modulo 2, determines the pair modulo 2
abbrev pub Determines : ℕ → Matrix → Type 0
Determines n m = (v w : Pair) → PairOf n v → PairOf n w → Congruent 2 (applied m v) (applied m w) → Congruent 2 v w

-- the one matrix U with B' = U·B, and what it does
pub record Joined (n : ℕ) (b b' : Basis) : Type 0 where
  pub by : Matrix
  pub by_size : MatrixOf n by
  pub joins : composed by (basis_of b) ≡ basis_of b'
  pub only : (u : Matrix) → MatrixOf n u → composed u (basis_of b) ≡ basis_of b' → u ≡ by
  pub moves : Moves n by
  pub keeps_length : (v : Pair) → PairOf n v → squared_length (applied by v) ≡ squared_length v
  -- the same numbers up to order and sign
  pub keeps_numbers : (v : Pair) → PairOf n v → IsPermutation (magnitudes v) (magnitudes (applied by v))
  -- what B takes to x, B' takes to U·x
  pub same_source : (x : Pair) → PairOf n x → applied (inverse_of b') (applied by x) ≡ applied (inverse_of b) x
  -- U is invertible, so U times a pair determines the pair modulo 2 too
  pub inverse : Matrix
  pub inverse_left : composed inverse by ≡ identity n
  pub inverse_right : composed by inverse ≡ identity n
  pub determines : Determines n by

abbrev pub BasesAreMatrices : Type 0
BasesAreMatrices = (n : ℕ) (b : Basis) → 0 < n → MatrixOf n (basis_of b) → MatrixLaws n b

abbrev pub OneFormOneJoiner : Type 0
OneFormOneJoiner = (n : ℕ) (b b' : Basis) → 0 < n → IsKey n b → IsKey n b' → form_of b ≡ form_of b' → Joined n b b'

-- a key modulo 2
pub record ModuloTwo (n : ℕ) (b : Basis) : Type 0 where
  pub determines : Determines n (basis_of b)
  -- h is found again from t = B·h modulo 2
  pub found : (h t : Pair) → PairOf n h → Congruent 2 t (applied (basis_of b) h) → Congruent 2 (applied (inverse_of b) t) h

abbrev pub InvertibleModuloTwo : Type 0
InvertibleModuloTwo = (n : ℕ) (b : Basis) → 0 < n → IsKey n b → ModuloTwo n b
