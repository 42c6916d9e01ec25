use Rattle.std.proofs.Common.{◌≡◌, true, false, replicate, pos, vec_items, sym, refl, ap, ◌∙◌, arith}
use Rattle.std.proofs.lemmas.Grind.{common_steps}
use Rattle.std.specs.List.{list_all}
use Rattle.cases.proofs.Settling.{all_same}
use Rattle.cases.proofs.files.read_signature_text.Goals as goal

pub returns : goal.returns
returns c =
    let sevens : vec_items c.in_ok-list.list ≡ replicate c.args.room (pos 7) = c.in_ok-list.ensures.items_if_clones_equal (λ y h. h) in
    let old : c.as_mut_slice.result.now ≡ replicate c.args.room (pos 7) = c.as_mut_slice.ensures.value ∙ sevens in
    let kept : c.read_signature-answer.new.numbers ≡ replicate c.args.room (pos 7) = c.in-Err-2.ensures.kept ∙ old in
    let same : c.as_slice-list.result.now ≡ c.read_signature-answer.new.numbers = grind (arith, common_steps) in
    let sure : c.all_are.result ≡ true = c.all_are.ensures ∙ ap (list_all _) (same ∙ kept) ∙ all_same _ (pos 7) c.args.room refl in
    let clash : true ≡ false = sym sure ∙ c.if-all_are.false in
    cc
