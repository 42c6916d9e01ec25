use Rattle.std.proofs.Common.{◌≡◌, Some, None, codes, sym, ap, ◌∙◌}
use Rattle.std.specs.Option.{option_map}
use Rattle.cases.specs.Lines.{parts_of, case_with_fields, cut}
use Rattle.cases.proofs.Cuts.{both, cut_text, opened_as, opened_none}
use Rattle.cases.proofs.Giving.{gives_none, gives_err}
use Rattle.cases.proofs.case.Case.with_fields.Goals as goal

pub returns-in_err-call : goal.returns-in_err-call
returns-in_err-call c =
    let e : cut (codes " expect=") c.args.line.now ≡ None = sym (cut_text 32 (codes "expect=") c.args.line.now c.split_once.result c.split_once.ensures.cases) ∙ ap (option_map both) c.in_err-call.ensures.ok_part in
    gives_none parts_of (case_with_fields c.args.line.now) c.from_residual.result (rw e) c.from_residual.ensures.0

pub returns-in_err-case : goal.returns-in_err-case
returns-in_err-case c =
    let e : cut (codes " expect=") c.args.line.now ≡ Some (c.in_ok-call.call.now, c.in_ok-call.expect.now) =
    sym (cut_text 32 (codes "expect=") c.args.line.now c.split_once.result c.split_once.ensures.cases) ∙ ap (option_map both) c.in_ok-call.ensures.ok_part in
    gives_err parts_of (case_with_fields c.args.line.now) c.in_err-case.field-0.0 c.from_residual-in_err-case.result
    (λ u. rw e (opened_none c.in_ok-call.call.now c.in_ok-call.expect.now (c.in_err-case.ensures u))) c.from_residual-in_err-case.ensures.1

pub returns : goal.returns
returns c =
    let e : cut (codes " expect=") c.args.line.now ≡ Some (c.in_ok-call.call.now, c.in_ok-call.expect.now) =
    sym (cut_text 32 (codes "expect=") c.args.line.now c.split_once.result c.split_once.ensures.cases) ∙ ap (option_map both) c.in_ok-call.ensures.ok_part in
    rw e (opened_as c.in_ok-call.call.now c.in_ok-call.expect.now c.in_ok-case.case c.in_ok-case.ensures)
