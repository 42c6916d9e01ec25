use Rattle.std.proofs.Common.{◌≡◌, true, false, length, pos, sym, refl, ap, ◌∙◌}
use Rattle.std.specs.List.{list_all}
use Rattle.cases.proofs.Settling.{all_same}
use Rattle.cases.proofs.keys.wiped.Goals as goal

pub returns-else-all_are : goal.returns-else-all_are
returns-else-all_are c = λ h.
    let sure : c.all_are.result ≡ true = c.all_are.ensures ∙ ap (list_all _) h ∙ all_same _ (pos 0) (length c.args.scratch.now) refl in
    let clash : true ≡ false = sym sure ∙ c.if-all_are.false in
    cc
