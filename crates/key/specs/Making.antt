-- Making the form of a key. Assumes nothing.
use Rattle.std.specs.Prelude.{◌≡◌, List, ℤ}
use Rattle.ring.specs.Classes.{size_of}
use Rattle.ring.specs.Elements.{adjoint, product, sum}
use Rattle.scheme.specs.Keys.{Basis, IsKey, IsForm, form_of}
use Rattle.algebra.specs.Counting.{FormBelongs}
use Rattle.algebra.specs.Isometries.{Joined}
use Rattle.key.specs.Gramheld.{gram_of}
use Rattle.key.specs.Held.{basis_of}
use Rattle.key.specs.Stored.{padded}
use Rattle.key.specs.declared.form.Form.{Form}
use Rattle.key.specs.declared.key.Key.{Key}

-- a*·b + c*·d
unfoldable pub starred : List ℤ → List ℤ → List ℤ → List ℤ → List ℤ
starred a b c d = sum (product (adjoint a) b) (product (adjoint c) d)

-- a form place with the class and the form of a key
pub record Made (key : Key) (form : Form) : Type 0 where
  pub class_is : form.class ≡ key.class
  pub gram_is : gram_of form ≡ form_of (basis_of key)
  pub q00_is : form.q00 ≡ padded (form_of (basis_of key)).q00
  pub q01_is : form.q01 ≡ padded (form_of (basis_of key)).q01
  pub q11_is : form.q11 ≡ padded (form_of (basis_of key)).q11

-- what is known of a key's form: it is a form, it belongs to exactly 4n keys, and one matrix that only
-- moves numbers and flips signs joins the key to each of them
pub record Known (key : Key) : Type 0 where
  pub is_key : IsKey (size_of key.class) (basis_of key)
  pub is_form : IsForm (size_of key.class) (form_of (basis_of key))
  pub belongs : FormBelongs (size_of key.class) (basis_of key)
  pub joined : (b' : Basis) → IsKey (size_of key.class) b' → form_of (basis_of key) ≡ form_of b' → Joined (size_of key.class) (basis_of key) b'
