-- What a place holds of a file: its class and its slip.
use Rattle.std.specs.Prelude.{◌≡◌, List, ℕ, Some}
use Rattle.slip.specs.Slips.{class_named}
use Rattle.key.specs.Held.{basis_of}
use Rattle.key.specs.Gramheld.{gram_of}
use Rattle.key.specs.Loading.{Loaded}
use Rattle.key.specs.FormLoading.{FormLoaded}
use Rattle.key.specs.Writing.{key_slip, form_slip}
use Rattle.key.specs.declared.key.Key.{Key}
use Rattle.key.specs.declared.form.Form.{Form}
use Rattle.cases.specs.Places.{key_slip_in, form_slip_in}

pub key_named : (file : List ℕ) (key : Key) → Loaded file key → class_named file ≡ Some key.class
key_named file key h = h.class

pub form_named : (file : List ℕ) (form : Form) → FormLoaded file form → class_named file ≡ Some form.class
form_named file form h = h.class

pub key_held : (file : List ℕ) (key : Key) → Loaded file key → key_slip key.class (basis_of key) ≡ key_slip_in file
key_held file key h = let class = h.class in let is = h.basis_is in rw (class, is)

pub form_held : (file : List ℕ) (form : Form) → FormLoaded file form → form_slip form.class (gram_of form) ≡ form_slip_in file
form_held file form h = let class = h.class in let is = h.gram_is in rw (class, is)
