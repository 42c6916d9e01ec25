use Rattle.std.proofs.Common.{[], ◌∷◌, Some, vec_items, ap}
use Rattle.ring.specs.Classes.{size_of}
use Rattle.ring.specs.Faults.{first_failing}
use Rattle.scheme.specs.Keys.{form_of}
use Rattle.key.specs.Held.{basis_of}
use Rattle.key.specs.Loading.{scratch_test}
use Rattle.key.specs.Writing.{form_slip}
use Rattle.cases.specs.Texts.{outcome_or, bytes_text}
use Rattle.cases.specs.Places.{make_form_outcome}
use Rattle.cases.proofs.Giving.{gives_same}
use Rattle.cases.proofs.Holds.{made_as}
use Rattle.cases.proofs.keys.make_form.Goals as goal

pub returns : goal.returns
returns c =
    let key = c.in_ok-key.key in
    let file = c.in_ok-key.ensures.0 in
    let read = c.in_ok-key.ensures.1 in
    let holds = c.in_ok-key.ensures.2 in
    let words = c.in_ok-words.ensures in
    gives_same vec_items (make_form_outcome c.args.case.now.fields.now)
    (Some (outcome_or (first_failing (scratch_test (size_of key.class) c.in_ok-words.words ∷ [])) (bytes_text (form_slip key.class (form_of (basis_of key)))))) c.make_form_text.result
    (rw (read, words) (ap Some (made_as file key c.in_ok-words.words holds))) c.make_form_text.ensures
