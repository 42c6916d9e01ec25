-- Key and form slips as they are written, and what they read as. Assumes nothing.
use Rattle.std.specs.Prelude.{◌≡◌, ℕ, ◌*◌, List, [], ◌∷◌, ◌++◌, Some, None}
use Rattle.std.specs.List.{flat_map}
use Rattle.ring.specs.Classes.{size_of}
use Rattle.ring.specs.Faults.{first_failing}
use Rattle.ring.specs.declared.class.Class.{Class}
use Rattle.scheme.specs.Keys.{Basis, Gram}
use Rattle.slip.specs.Numbers.{bytes8, bytes32}
use Rattle.slip.specs.Slips.{class_named}
use Rattle.slip.specs.Writes.{trailer_of}
use Rattle.slip.specs.declared.kind.Kind.TheVariants.{Key, Form}
use Rattle.key.specs.FormLoading.{form_tests, gram_in}
use Rattle.key.specs.Gramheld.{gram_of}
use Rattle.key.specs.Held.{basis_of}
use Rattle.key.specs.Loading.{key_tests, basis_in}
use Rattle.key.specs.declared.form.Form.{Form as FormPlace}
use Rattle.key.specs.declared.key.Key.{Key as KeyPlace}

-- f, g, F and G, one byte a number, and the trailer
unfoldable pub key_slip : Class → Basis → List ℕ
key_slip class b = flat_map bytes8 (b.f ∷ b.g ∷ b.F ∷ b.G ∷ []) ++ trailer_of Key class

-- q00, q01 and q11, four bytes a number, and the trailer
unfoldable pub form_slip : Class → Gram → List ℕ
form_slip class q = flat_map bytes32 (q.q00 ∷ q.q01 ∷ q.q11 ∷ []) ++ trailer_of Form class

-- the file, with a scratch of 4n words, passes every test of a load, and holds this key
pub record ReadsAsKey (file : List ℕ) (key : KeyPlace) : Type 0 where
  pub passes : first_failing (key_tests file (4 * size_of key.class)) ≡ None
  pub named : class_named file ≡ Some key.class
  pub same : basis_in file ≡ basis_of key

-- the same for a form
pub record ReadsAsForm (file : List ℕ) (form : FormPlace) : Type 0 where
  pub passes : first_failing (form_tests file (4 * size_of form.class)) ≡ None
  pub named : class_named file ≡ Some form.class
  pub same : gram_in file ≡ gram_of form
