-- Keys and forms of HAWK, over lists of integers. Assumes nothing.
use Rattle.std.specs.Prelude.{◌≡◌, ℕ, Bool, true, ◌&&◌, List, [], ◌∷◌, length, ℤ, pos, ◌==◌, nat_le, unsigned_abs}
use Rattle.std.specs.List.{AllByRecursion}
use Rattle.ring.specs.Elements.{product, sum, difference, adjoint, constant, total}
use Rattle.ring.specs.Kinds.{rest}

-- the four elements of a key; the basis B has the rows (f, F) and (g, G)
pub record Basis : Type 0 where
  pub f : List ℤ
  pub g : List ℤ
  pub F : List ℤ
  pub G : List ℤ

abbrev pub basis : List ℤ → List ℤ → List ℤ → List ℤ → Basis
basis f g F G = record { f = f; g = g; F = F; G = G }

-- the three elements of a form: the matrix B*·B has the rows (q00, q01) and (q01*, q11)
pub record Gram : Type 0 where
  pub q00 : List ℤ
  pub q01 : List ℤ
  pub q11 : List ℤ

abbrev pub gram : List ℤ → List ℤ → List ℤ → Gram
gram q00 q01 q11 = record { q00 = q00; q01 = q01; q11 = q11 }

-- −m ≤ z ≤ m
abbrev pub within : ℕ → ℤ → Bool
within m z = nat_le (unsigned_abs z) m

abbrev pub Within : ℕ → ℤ → Type 0
Within m z = within m z ≡ true

-- whether every number is at most m in size
abbrev pub all_within : ℕ → List ℤ → Bool
all_within m [] = true
all_within m (x ∷ xs) = within m x && all_within m xs

abbrev pub odd : ℤ → Bool
odd z = rest 2 z == 1

-- f·G − g·F
unfoldable pub determinant : Basis → List ℤ
determinant b = difference (product b.f b.G) (product b.g b.F)

-- the largest number of a key, and of a form, in size
abbrev pub key_limit : ℕ
key_limit = 127

abbrev pub form_limit : ℕ
form_limit = 33554431

-- a key whose elements have n coefficients
pub record IsKey (n : ℕ) (b : Basis) : Type 0 where
  pub f_size : length b.f ≡ n
  pub g_size : length b.g ≡ n
  pub F_size : length b.F ≡ n
  pub G_size : length b.G ≡ n
  pub f_small : AllByRecursion (Within key_limit) b.f
  pub g_small : AllByRecursion (Within key_limit) b.g
  pub F_small : AllByRecursion (Within key_limit) b.F
  pub G_small : AllByRecursion (Within key_limit) b.G
  pub f_odd : odd (total b.f) ≡ true
  pub g_odd : odd (total b.g) ≡ true
  pub unit_determinant : determinant b ≡ constant n (pos 1)

-- q00 = f*·f + g*·g, q01 = f*·F + g*·G, q11 = F*·F + G*·G
unfoldable pub form_of : Basis → Gram
form_of b = record {
  q00 = sum (product (adjoint b.f) b.f) (product (adjoint b.g) b.g);
  q01 = sum (product (adjoint b.f) b.F) (product (adjoint b.g) b.G);
  q11 = sum (product (adjoint b.F) b.F) (product (adjoint b.G) b.G);
}

-- a form whose elements have n coefficients
pub record IsForm (n : ℕ) (q : Gram) : Type 0 where
  pub q00_size : length q.q00 ≡ n
  pub q01_size : length q.q01 ≡ n
  pub q11_size : length q.q11 ≡ n
  pub q00_small : AllByRecursion (Within form_limit) q.q00
  pub q01_small : AllByRecursion (Within form_limit) q.q01
  pub q11_small : AllByRecursion (Within form_limit) q.q11
  pub q00_selfadjoint : q.q00 ≡ adjoint q.q00
  pub q11_selfadjoint : q.q11 ≡ adjoint q.q11
