use Rattle.std.proofs.Common.{◌≡◌, ◌*◌, min, length, take, None, string_bytes, MatchResult, rules, ap, ◌∙◌, arith}
use Rattle.std.proofs.lemmas.Result.{IfOk-weaker}
use Rattle.std.proofs.lemmas.List.{take_min}
use Rattle.ring.specs.Classes.{size_of}
use Rattle.ring.specs.Faults.{first_failing}
use Rattle.slip.specs.Slips.{slip_tests, size_named}
use Rattle.slip.specs.declared.kind.Kind.TheVariants.{Key}
use Rattle.key.specs.Refusals.{key_fault}
use Rattle.answers.specs.Lines.{form_line, refusal_line, measure_line, file_limit}
use Rattle.key.specs.Gramheld.{gram_of}
use Rattle.answers.proofs.Scratches.{size_read, line_of_form, line_of_refusal}
use Rattle.answers.proofs.form.measure.Goals as goal

pub returns-in-Ok : goal.returns-in-Ok
returns-in-Ok c =
    let done = c.in-Ok.ensures in
    let size : c.min.result ≡ min file_limit (length c.args.input.now) = omega (arith, c.min.ensures) in
    let cut = ap (λ n. take n c.args.input.now) size ∙ take_min file_limit c.args.input.now in
    IfOk-weaker c.form_line.result (λ t. string_bytes t ≡ form_line c.in-Ok.form.class (gram_of c.in-Ok.form)) (λ t. string_bytes t ≡ measure_line (take file_limit c.args.input.now))
    (λ t e. e ∙ rw cut at (line_of_form _ _ c.in-Ok.form.class (gram_of c.in-Ok.form) done.0 done.1.class done.1.gram)) c.form_line.ensures

pub returns : goal.returns
returns c =
    let size : c.min.result ≡ min file_limit (length c.args.input.now) = omega (arith, c.min.ensures) in
    let file = take c.min.result c.args.input.now in
    let cut : file ≡ take file_limit c.args.input.now = ap (λ n. take n c.args.input.now) size ∙ take_min file_limit c.args.input.now in
    let read : MatchResult c.read.result (λ s. c.map_or-size.result ≡ size_of s.class) (λ _. c.map_or-size.result ≡ 0) = search rules in
    let right : first_failing (slip_tests Key file) ≡ None → length c.as_mut_slice.result.now ≡ 4 * size_named file = λ h. omega (arith, c.as_mut_slice.ensures.len, c.in_ok-scratch.ensures.len, size_read file c.read.result c.map_or-size.result c.read.ensures read h) in
    IfOk-weaker c.refusal_line.result (λ t. string_bytes t ≡ refusal_line c.into.result) (λ t. string_bytes t ≡ measure_line (take file_limit c.args.input.now))
    (λ t e. e ∙ ap refusal_line c.into.ensures ∙ line_of_refusal file (length c.as_mut_slice.result.now) (key_fault c.in-Err.fault) right c.in-Err.ensures ∙ ap measure_line cut) c.refusal_line.ensures
