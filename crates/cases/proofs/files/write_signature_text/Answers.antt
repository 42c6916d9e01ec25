use Rattle.std.proofs.Common.{◌≡◌, replicate, Some, vec_items, sym, ap, ◌∙◌, arith}
use Rattle.std.proofs.lemmas.Grind.{common_steps}
use Rattle.std.proofs.lemmas.Result.{on_err_weaker}
use Rattle.slip.specs.Refusals.{slip_fault}
use Rattle.slip.specs.Signatures.{write_tests, signature_slip}
use Rattle.cases.specs.Texts.{settled_text}
use Rattle.cases.specs.Slips.{write_signature_text}
use Rattle.cases.proofs.Giving.{gives_same}
use Rattle.cases.proofs.Settling.{settled_is}
use Rattle.cases.proofs.files.write_signature_text.Goals as goal

pub returns : goal.returns
returns c =
    let sevens : vec_items c.in_ok-area.area ≡ replicate c.args.room 7 = c.in_ok-area.ensures.items_if_clones_equal (λ y h. h) in
    let same : c.as_slice.result.now ≡ c.write_signature-answer.new.area = grind (arith, common_steps) in
    let old : c.as_mut_slice.result.now ≡ replicate c.args.room 7 = c.as_mut_slice.ensures.value ∙ sevens in
    let answer = rw old at c.write_signature-answer.ensures.answer in
    gives_same vec_items (Some (write_signature_text c.args.numbers.now c.args.room)) (Some (settled_text slip_fault c.as_slice.result.now c.write_signature-answer.result)) c.settled.result
    (ap Some (sym (ap (λ a. settled_text slip_fault a c.write_signature-answer.result) same
    ∙ settled_is slip_fault (write_tests c.args.numbers.now (replicate c.args.room 7)) (signature_slip c.args.numbers.now) c.args.room _ _ answer (on_err_weaker c.write_signature-answer.result (λ e. e ∙ old) c.write_signature-answer.ensures.kept)))) c.settled.ensures
