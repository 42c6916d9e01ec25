-- Pairs of elements and 2×2 matrices of elements: a basis, its inverse and a form as matrices. Assumes nothing.
use Rattle.std.specs.Prelude.{◌≡◌, ℕ, List, ◌++◌, map, length, ℤ, pos, ◌+ℤ◌, unsigned_abs}
use Rattle.ring.specs.Elements.{dot, product, sum, negative, adjoint, constant}
use Rattle.scheme.specs.Keys.{Basis, Gram}

pub record Pair : Type 0 where
  pub first : List ℤ
  pub second : List ℤ

-- the rows are (m00, m01) and (m10, m11)
pub record Matrix : Type 0 where
  pub m00 : List ℤ
  pub m01 : List ℤ
  pub m10 : List ℤ
  pub m11 : List ℤ

-- elements of n coefficients
pub record PairOf (n : ℕ) (v : Pair) : Type 0 where
  pub first_size : length v.first ≡ n
  pub second_size : length v.second ≡ n

pub record MatrixOf (n : ℕ) (m : Matrix) : Type 0 where
  pub size00 : length m.m00 ≡ n
  pub size01 : length m.m01 ≡ n
  pub size10 : length m.m10 ≡ n
  pub size11 : length m.m11 ≡ n

-- a matrix times a pair
unfoldable pub applied : Matrix → Pair → Pair
applied m v = record {
  first = sum (product m.m00 v.first) (product m.m01 v.second);
  second = sum (product m.m10 v.first) (product m.m11 v.second);
}

-- a matrix times a matrix
unfoldable pub composed : Matrix → Matrix → Matrix
composed l m = record {
  m00 = sum (product l.m00 m.m00) (product l.m01 m.m10);
  m01 = sum (product l.m00 m.m01) (product l.m01 m.m11);
  m10 = sum (product l.m10 m.m00) (product l.m11 m.m10);
  m11 = sum (product l.m10 m.m01) (product l.m11 m.m11);
}

unfoldable pub identity : ℕ → Matrix
identity n = record { m00 = constant n (pos 1); m01 = constant n (pos 0); m10 = constant n (pos 0); m11 = constant n (pos 1) }

-- M*: rows and columns exchanged, and each element's adjoint
unfoldable pub starred : Matrix → Matrix
starred m = record { m00 = adjoint m.m00; m01 = adjoint m.m10; m10 = adjoint m.m01; m11 = adjoint m.m11 }

-- B, with the rows (f, F) and (g, G)
unfoldable pub basis_of : Basis → Matrix
basis_of b = record { m00 = b.f; m01 = b.F; m10 = b.g; m11 = b.G }

-- the inverse of B, with the rows (G, −F) and (−g, f)
unfoldable pub inverse_of : Basis → Matrix
inverse_of b = record { m00 = b.G; m01 = negative b.F; m10 = negative b.g; m11 = b.f }

-- the form, with the rows (q00, q01) and (q01*, q11)
unfoldable pub form_matrix : Gram → Matrix
form_matrix q = record { m00 = q.q00; m01 = q.q01; m10 = adjoint q.q01; m11 = q.q11 }

-- the sum of v_i · u_i over all 2n places
unfoldable pub pairing : Pair → Pair → ℤ
pairing v u = dot v.first u.first +ℤ dot v.second u.second

unfoldable pub squared_length : Pair → ℤ
squared_length v = pairing v v

-- the sizes of a pair's 2n numbers, without their signs
unfoldable pub magnitudes : Pair → List ℕ
magnitudes v = map unsigned_abs (v.first ++ v.second)
