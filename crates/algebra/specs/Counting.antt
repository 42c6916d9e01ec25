-- The form of a key is a form, and belongs to exactly 4n keys. Assumes nothing.
use Rattle.std.specs.Prelude.{◌≡◌, ℕ, ◌*◌, ◌<◌, ◌≤◌}
use Rattle.scheme.specs.Keys.{Basis, IsKey, IsForm, form_of}
use Rattle.scheme.specs.Siblings.{sibling}

-- a key's form has small numbers, and q00 and q11 are their own adjoints
abbrev pub FormsOfKeys : Type 0
FormsOfKeys = (n : ℕ) (b : Basis) → 0 < n → n ≤ 1024 → IsKey n b → IsForm n (form_of b)

-- the keys with the form of b are `sibling n j b` for j below 4n, each once
pub record FormBelongs (n : ℕ) (b : Basis) : Type 0 where
  pub keys : (j : ℕ) → j < 4 * n → IsKey n (sibling n j b)
  pub same_form : (j : ℕ) → j < 4 * n → form_of (sibling n j b) ≡ form_of b
  pub apart : (i j : ℕ) → i < 4 * n → j < 4 * n → sibling n i b ≡ sibling n j b → i ≡ j
  pub all : (b' : Basis) → IsKey n b' → form_of b' ≡ form_of b → (j : ℕ) × (j < 4 * n) × (b' ≡ sibling n j b)

abbrev pub Exactly4n : Type 0
Exactly4n = (n : ℕ) (b : Basis) → 0 < n → IsKey n b → FormBelongs n b
