use Rattle.std.proofs.Common.{◌*◌, ◌∷◌, length, sym, refl, ap, subst, ◌∙◌, rules}
use Rattle.std.proofs.lemmas.Result.{err_from_is_err_and}
use Rattle.ring.specs.Classes.{size_of}
use Rattle.ring.specs.Faults.{first_failing}
use Rattle.ring.proofs.Firsts.{first_before}
use Rattle.slip.specs.Slips.{slip_tests, size_named}
use Rattle.slip.specs.declared.kind.Kind.TheVariants.{Form}
use Rattle.key.specs.FormLoading.{form_tests, form_body_tests, form_scratch_test, FormLoaded}
use Rattle.key.specs.Refusals.{form_fault}
use Rattle.key.specs.declared.fault.FormFault.TheVariants.{Scratch}
use Rattle.key.proofs.Body.{scratch_fails, after_scratch}
use Rattle.key.proofs.form.Form.load.Goals as goal

pub returns-in_err-slip : goal.returns-in_err-slip
unfolding form_tests
returns-in_err-slip c =
    let file = c.args.file.now in
    let p = err_from_is_err_and c.from_residual.result c.from_residual.ensures.1 in
    record {
      answer = rw (p.1, p.2) (first_before (slip_tests Form file) (form_scratch_test (size_named file) (length c.args.scratch.now) ∷ form_body_tests file) _ c.in_err-slip.ensures);
      kept = rw p.1 refl;
      wiped = search rules;
    }

pub returns-then-guard-size : goal.returns-then-guard-size
unfolding form_tests
returns-then-guard-size c =
    let file = c.args.file.now in
    let n = c.size.ensures ∙ ap size_of c.class.ensures ∙ sym c.in_ok-slip.ensures.1.size in
    record {
      answer = scratch_fails (slip_tests Form file) (form_body_tests file) (form_fault Scratch) (length c.args.scratch.now) (size_named file) c.in_ok-slip.ensures.0 (λ e. c.if-guard-size.true (e ∙ sym (ap (λ k. 4 * k) n)));
      kept = refl;
      wiped = search rules;
    }

pub returns-in_err-form : goal.returns-in_err-form
unfolding form_tests
returns-in_err-form c =
    let file = c.args.file.now in
    let n = c.size.ensures ∙ ap size_of c.class.ensures ∙ sym c.in_ok-slip.ensures.1.size in
    let p = err_from_is_err_and c.from_residual-in_err-form.result c.from_residual-in_err-form.ensures.1 in
    record {
      answer = rw (p.1, p.2) (after_scratch (slip_tests Form file) (form_body_tests file) (form_fault Scratch) (length c.args.scratch.now) (size_named file) c.in_ok-slip.ensures.0 (c.if-guard-size.false ∙ ap (λ k. 4 * k) n) ∙ sym (ap (λ xs. first_failing (form_body_tests xs)) c.in_ok-slip.ensures.1.bytes) ∙ c.in_err-form.ensures);
      kept = rw p.1 refl;
      wiped = search rules;
    }

pub returns : goal.returns
unfolding form_tests
returns c =
    let file = c.args.file.now in
    let n = c.size.ensures ∙ ap size_of c.class.ensures ∙ sym c.in_ok-slip.ensures.1.size in
    record {
      answer = (after_scratch (slip_tests Form file) (form_body_tests file) (form_fault Scratch) (length c.args.scratch.now) (size_named file) c.in_ok-slip.ensures.0 (c.if-guard-size.false ∙ ap (λ k. 4 * k) n) ∙ sym (ap (λ xs. first_failing (form_body_tests xs)) c.in_ok-slip.ensures.1.bytes) ∙ c.in_ok-form.ensures.0, subst (λ xs. FormLoaded xs c.in_ok-form.form) c.in_ok-slip.ensures.1.bytes c.in_ok-form.ensures.1);
      kept = tt;
      wiped = search rules;
    }
