-- A form that was made of the key in a file. Assumes nothing.
use Rattle.std.specs.Prelude.{◌≡◌, ℕ, List, Some}
use Rattle.scheme.specs.Keys.{form_of}
use Rattle.slip.specs.Slips.{class_named}
use Rattle.key.specs.Gramheld.{gram_of}
use Rattle.key.specs.Loading.{basis_in}
use Rattle.key.specs.declared.form.Form.{Form}

pub record FormIn (file : List ℕ) (form : Form) : Type 0 where
  pub class : class_named file ≡ Some form.class
  pub gram : gram_of form ≡ form_of (basis_in file)
