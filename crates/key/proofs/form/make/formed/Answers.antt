use Rattle.std.proofs.Common.{◌≡◌, length, sym, refl, ap, ◌∙◌}
use Rattle.scheme.specs.Keys.{form_of}
use Rattle.key.specs.Held.{basis_of}
use Rattle.key.specs.Making.{Known}
use Rattle.key.specs.Stored.{padded}
use Rattle.key.proofs.Forms.{known_is, q00_is, q01_is, q11_is, gram_is, stored_small, stored_selfadjoint}
use Rattle.key.proofs.form.make.formed.Goals as goal
use Rattle.key.proofs.form.make.formed.Goals.{After-entry-q11}

-- what the three calls gave
module _ (c : After-entry-q11) where
  known : Known c.args.key.now
  known =
      known_is c.args.key.now (ap length (sym c.f.ensures.value) ∙ c.f.ensures.len) (ap length (sym c.g.ensures.value) ∙ c.g.ensures.len)
      (ap length (sym c.cap_f.ensures.value) ∙ c.cap_f.ensures.len) (ap length (sym c.cap_g.ensures.value) ∙ c.cap_g.ensures.len)

  q00 : c.entry-q00.result ≡ padded (form_of (basis_of c.args.key.now)).q00
  q00 = c.entry-q00.ensures ∙ rw (c.f.ensures.value, c.g.ensures.value) (ap padded (q00_is (basis_of c.args.key.now)))

  q01 : c.entry-q01.result ≡ padded (form_of (basis_of c.args.key.now)).q01
  q01 = c.entry-q01.ensures ∙ rw (c.f.ensures.value, c.g.ensures.value, c.cap_f.ensures.value, c.cap_g.ensures.value) (ap padded (q01_is (basis_of c.args.key.now)))

  q11 : c.entry-q11.result ≡ padded (form_of (basis_of c.args.key.now)).q11
  q11 = c.entry-q11.ensures ∙ rw (c.cap_f.ensures.value, c.cap_g.ensures.value) (ap padded (q11_is (basis_of c.args.key.now)))

pub invariant_of-result : goal.invariant_of-result
invariant_of-result c =
    let at = (goal.at.invariant_of-result c).After-entry-q11 in
    let key = c.args.key.now in
    let form = (known at).is_form in
    record {
      small_q00 = stored_small key.class c.entry-q00.result (form_of (basis_of key)).q00 (q00 at) form.q00_size form.q00_small;
      small_q01 = stored_small key.class c.entry-q01.result (form_of (basis_of key)).q01 (q01 at) form.q01_size form.q01_small;
      small_q11 = stored_small key.class c.entry-q11.result (form_of (basis_of key)).q11 (q11 at) form.q11_size form.q11_small;
      selfadjoint_q00 = stored_selfadjoint key.class c.entry-q00.result (form_of (basis_of key)).q00 (q00 at) form.q00_size form.q00_selfadjoint;
      selfadjoint_q11 = stored_selfadjoint key.class c.entry-q11.result (form_of (basis_of key)).q11 (q11 at) form.q11_size form.q11_selfadjoint;
    }

pub returns : goal.returns
returns c =
    let at = (goal.at.returns c).After-entry-q11 in
    let key = c.args.key.now in
    record {
      made = record {
        class_is = refl;
        gram_is = gram_is key.class c.entry-q00.result c.entry-q01.result c.entry-q11.result (form_of (basis_of key)) (q00 at) (q01 at) (q11 at) (known at).is_form;
        q00_is = q00 at;
        q01_is = q01 at;
        q11_is = q11 at;
      };
      known = known at;
    }
