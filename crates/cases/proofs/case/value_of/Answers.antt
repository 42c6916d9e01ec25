use Rattle.std.proofs.Common.{◌≡◌, Some, None, cond, codes, lit<, sym, ap, ◌∙◌}
use Rattle.std.specs.Option.{option_map}
use Rattle.cases.specs.Lines.{cut}
use Rattle.cases.proofs.Cuts.{both, cut_char, kept_if}
use Rattle.cases.proofs.case.value_of.Goals as goal

pub returns-in_err-key : goal.returns-in_err-key
returns-in_err-key c =
    let e : cut (codes "=") c.args.field.now ≡ None = sym (cut_char 61 c.args.field.now c.split_once.result c.split_once.ensures.cases (lit< tt)) ∙ ap (option_map both) c.in_err-key.was in
    rw (e, c.from_residual.ensures)

pub returns : goal.returns
returns c =
    let e : cut (codes "=") c.args.field.now ≡ Some (c.in_ok-key.key.now, c.in_ok-key.value.now) =
    sym (cut_char 61 c.args.field.now c.split_once.result c.split_once.ensures.cases (lit< tt)) ∙ ap (option_map both) c.in_ok-key.was in
    rw (e, c.then_some.ensures) (kept_if c.eq.result c.in_ok-key.value ∙ ap (λ b. cond b (Some c.in_ok-key.value.now) None) c.eq.ensures)
