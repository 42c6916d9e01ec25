use Rattle.std.proofs.Common.{◌≡◌, Some, None, codes, lit<, refl, sym, ap, ◌∙◌}
use Rattle.std.specs.Option.{option_map}
use Rattle.cases.specs.Lines.{parts_of, case_in, cut, unindented}
use Rattle.cases.proofs.Cuts.{both, cut_char, cut_text, behind_is, behind_or, called_is}
use Rattle.cases.proofs.Giving.{gives_none}
use Rattle.cases.proofs.case.Case.read.Goals as goal

pub returns-in_err-call : goal.returns-in_err-call
returns-in_err-call c =
    let line = c.unwrap_or-line.result.now in
    let from : line ≡ unindented c.args.line.now = ap (λ x. x.now) c.unwrap_or-line.ensures ∙ behind_or (codes "  ") c.args.line c.strip_prefix.result (behind_is (codes "  ") c.args.line.now c.strip_prefix.result c.strip_prefix.ensures.cases) in
    let e : cut (codes " expect=") line ≡ None = sym (cut_text 32 (codes "expect=") line c.split_once.result c.split_once.ensures.cases) ∙ ap (option_map both) c.in_err-call.ensures.ok_part in
    gives_none parts_of (case_in c.args.line.now) c.from_residual.result (rw (← from, e)) c.from_residual.ensures.0

pub returns : goal.returns
returns c =
    let line = c.unwrap_or-line.result.now in
    let from : line ≡ unindented c.args.line.now = ap (λ x. x.now) c.unwrap_or-line.ensures ∙ behind_or (codes "  ") c.args.line c.strip_prefix.result (behind_is (codes "  ") c.args.line.now c.strip_prefix.result c.strip_prefix.ensures.cases) in
    let e : cut (codes " expect=") line ≡ Some (c.in_ok-call.call.now, c.in_ok-call.expect.now) =
    sym (cut_text 32 (codes "expect=") line c.split_once.result c.split_once.ensures.cases) ∙ ap (option_map both) c.in_ok-call.ensures.ok_part in
    let inner = cut_char 32 c.in_ok-call.call.now c.split_once-2.result c.split_once-2.ensures.cases (lit< tt) in
    rw (← from, e) (ap Some (called_is c.in_ok-call.call _ c.in_ok-call.expect.now c.split_once-2.result c.unwrap_or.result inner refl c.unwrap_or.ensures))
