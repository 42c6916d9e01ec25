use Rattle.std.proofs.Common.{◌≡◌, Some, sym, refl, ap, ◌∙◌}
use Rattle.std.proofs.lemmas.Result.{err_from_is_err_and}
use Rattle.ring.specs.Classes.{size_of}
use Rattle.ring.specs.Faults.{first_failing}
use Rattle.scheme.specs.Keys.{all_within, form_limit}
use Rattle.key.specs.FormLoading.{adjoint_tests, form_body_tests, form_numbers_in, gram_in}
use Rattle.key.specs.Stored.{front}
use Rattle.key.proofs.FormBody.{form_stops_0, form_stops_1, form_stops_2, after_form_ranges, adjoint_parts, same_adjoints}
use Rattle.key.proofs.KeyTests.{form_element, form_test}
use Rattle.key.proofs.Taking.{front_element, Element}
use Rattle.key.proofs.form.load.decoded.Goals as goal
use Rattle.key.proofs.form.load.decoded.Goals.{After-used-2}

-- the three sections, taken
module _ (c : After-used-2) where
  q00_in : Element form_limit (size_of c.args.slip.now.class) (form_numbers_in c.args.slip.now.file.now 0) c.stored-q00.result
  q00_in = form_element c.args.slip.now c.requires.kind 0 c.stored-q00.result (c.in_ok-tested.ensures.0, c.stored-q00.ensures)

  q01_in : Element form_limit (size_of c.args.slip.now.class) (form_numbers_in c.args.slip.now.file.now 1) c.stored-q01.result
  q01_in = form_element c.args.slip.now c.requires.kind 1 c.stored-q01.result (c.in_ok-tested-2.ensures.0, c.stored-q01.ensures)

  q11_in : Element form_limit (size_of c.args.slip.now.class) (form_numbers_in c.args.slip.now.file.now 2) c.stored-q11.result
  q11_in = form_element c.args.slip.now c.requires.kind 2 c.stored-q11.result (c.in_ok-tested-3.ensures.0, c.stored-q11.ensures)

  q00_is : front c.class-class.result c.stored-q00.result ≡ form_numbers_in c.args.slip.now.file.now 0
  q00_is = front_element (form_numbers_in c.args.slip.now.file.now 0) c.stored-q00.result c.class-class.result (ap size_of c.class-class.ensures) q00_in

  q01_is : front c.class-class.result c.stored-q01.result ≡ form_numbers_in c.args.slip.now.file.now 1
  q01_is = front_element (form_numbers_in c.args.slip.now.file.now 1) c.stored-q01.result c.class-class.result (ap size_of c.class-class.ensures) q01_in

  q11_is : front c.class-class.result c.stored-q11.result ≡ form_numbers_in c.args.slip.now.file.now 2
  q11_is = front_element (form_numbers_in c.args.slip.now.file.now 2) c.stored-q11.result c.class-class.result (ap size_of c.class-class.ensures) q11_in

  ranges : first_failing (form_body_tests c.args.slip.now.file.now) ≡ first_failing (adjoint_tests c.used.result.now c.used-2.result.now)
  ranges =
      after_form_ranges c.args.slip.now.file.now c.stored-q00.result c.stored-q01.result c.stored-q11.result q00_in q01_in q11_in
      ∙ same_adjoints c.used.result.now c.used-2.result.now _ _ (c.used.ensures.value ∙ q00_is) (c.used-2.ensures.value ∙ q11_is)

pub returns-in_err-tested : goal.returns-in_err-tested
returns-in_err-tested c =
    let s = c.args.slip.now in
    let p = err_from_is_err_and c.from_residual.result c.from_residual.ensures.1 in
    rw (p.1, p.2) (form_stops_0 s.file.now _ (sym (form_test s c.requires.kind 0) ∙ c.in_err-tested.ensures))

pub returns-in_err-tested-2 : goal.returns-in_err-tested-2
returns-in_err-tested-2 c =
    let s = c.args.slip.now in
    let q00 = form_element s c.requires.kind 0 c.stored-q00.result (c.in_ok-tested.ensures.0, c.stored-q00.ensures) in
    let p = err_from_is_err_and c.from_residual-in_err-tested-2.result c.from_residual-in_err-tested-2.ensures.1 in
    rw (p.1, p.2) (form_stops_1 s.file.now _ _ q00 (sym (form_test s c.requires.kind 1) ∙ c.in_err-tested-2.ensures))

pub returns-in_err-tested-3 : goal.returns-in_err-tested-3
returns-in_err-tested-3 c =
    let s = c.args.slip.now in
    let q00 = form_element s c.requires.kind 0 c.stored-q00.result (c.in_ok-tested.ensures.0, c.stored-q00.ensures) in
    let q01 = form_element s c.requires.kind 1 c.stored-q01.result (c.in_ok-tested-2.ensures.0, c.stored-q01.ensures) in
    let p = err_from_is_err_and c.from_residual-in_err-tested-3.result c.from_residual-in_err-tested-3.ensures.1 in
    rw (p.1, p.2) (form_stops_2 s.file.now _ _ _ q00 q01 (sym (form_test s c.requires.kind 2) ∙ c.in_err-tested-3.ensures))

pub selfadjoint-requires-clause-small_q00 : goal.selfadjoint-requires-clause-small_q00
selfadjoint-requires-clause-small_q00 c =
    let at = (goal.at.selfadjoint-requires-clause-small_q00 c).After-used-2 in
    ap (all_within form_limit) (c.used.ensures.value ∙ q00_is at) ∙ (q00_in at).small

pub selfadjoint-requires-clause-small_q11 : goal.selfadjoint-requires-clause-small_q11
selfadjoint-requires-clause-small_q11 c =
    let at = (goal.at.selfadjoint-requires-clause-small_q11 c).After-used-2 in
    ap (all_within form_limit) (c.used-2.ensures.value ∙ q11_is at) ∙ (q11_in at).small

pub returns-in_err-selfadjoint : goal.returns-in_err-selfadjoint
returns-in_err-selfadjoint c =
    let at = (goal.at.returns-in_err-selfadjoint c).After-used-2 in
    let p = err_from_is_err_and c.from_residual-in_err-selfadjoint.result c.from_residual-in_err-selfadjoint.ensures.1 in
    rw (p.1, p.2) (ranges at ∙ c.in_err-selfadjoint.ensures)

pub invariant_of-result : goal.invariant_of-result
invariant_of-result c =
    let at = (goal.at.invariant_of-result c).After-used-2 in
    let parts = adjoint_parts c.used.result.now c.used-2.result.now c.in_ok-selfadjoint.ensures.0 in
    record {
      small_q00 = ap (all_within form_limit) (q00_is at) ∙ (q00_in at).small;
      small_q01 = ap (all_within form_limit) (q01_is at) ∙ (q01_in at).small;
      small_q11 = ap (all_within form_limit) (q11_is at) ∙ (q11_in at).small;
      selfadjoint_q00 = rw c.used.ensures.value at parts.0;
      selfadjoint_q11 = rw c.used-2.ensures.value at parts.1;
    }

pub returns : goal.returns
unfolding gram_in
returns c =
    let at = (goal.at.returns c).After-used-2 in
    let q00 = q00_is at in
    let q01 = q01_is at in
    let q11 = q11_is at in (
      ranges at ∙ c.in_ok-selfadjoint.ensures.0,
      record {
        class = c.args.slip.now.named ∙ ap Some (sym c.class-class.ensures);
        gram_is = rw (q00, q01, q11) refl;
        q00_is = (q00_in at).memory_is;
        q01_is = (q01_in at).memory_is;
        q11_is = (q11_in at).memory_is;
      },
    )
