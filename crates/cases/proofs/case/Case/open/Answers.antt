use Rattle.std.proofs.Common.{◌≡◌, [], Some, None, codes, lit<, sym, ap, ◌∙◌}
use Rattle.std.specs.Option.{option_map}
use Rattle.cases.specs.Lines.{parts_of, opened, cut}
use Rattle.cases.proofs.Cuts.{both, cut_char}
use Rattle.cases.proofs.Giving.{gives_none}
use Rattle.cases.proofs.case.Case.open.Goals as goal

pub returns-in_err-verb : goal.returns-in_err-verb
returns-in_err-verb c =
    let e : cut (codes " ") c.args.line.now ≡ None = sym (cut_char 32 c.args.line.now c.split_once.result c.split_once.ensures.cases (lit< tt)) ∙ ap (option_map both) c.in_err-verb.ensures.ok_part in
    gives_none parts_of (opened c.args.line.now []) c.from_residual.result (rw e) c.from_residual.ensures.0

pub returns : goal.returns
returns c =
    let e : cut (codes " ") c.args.line.now ≡ Some (c.in_ok-verb.verb.now, c.in_ok-verb.fields.now) =
    sym (cut_char 32 c.args.line.now c.split_once.result c.split_once.ensures.cases (lit< tt)) ∙ ap (option_map both) c.in_ok-verb.ensures.ok_part in
    rw e
