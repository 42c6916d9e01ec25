use Rattle.std.proofs.Common.{refl, ◌∙◌, arith}
use Rattle.key.specs.Gramheld.{gram_of}
use Rattle.verify.proofs.Lengths.{row_words, row_is, small_adjoint, first_large, second_large, both_kept, total_fits, total_is}
use Rattle.verify.proofs.image.length_under.Goals as goal

pub invariant_of-paired : goal.invariant_of-paired
invariant_of-paired c =
    let form = c.args.form.now in
    let areas = c.split_at_mut-p.ensures in
    record { elements = row_words _ c.first_row.ensures.p_is c.first_row.ensures.q_is _ (c.first_row.auto.p ∙ areas.front_len) (omega (arith, c.first_row.auto.q, areas.back_len, c.requires.v_long, c.requires.rows_long)) form.small_q00 form.small_q01 }

pub returns-in_err-first : goal.returns-in_err-first
returns-in_err-first c =
    let q = gram_of c.args.form.now in
    let u0-is = row_is _ c.first_row.ensures.p_is c.first_row.ensures.q_is c.args.v.now.v0.now c.args.v.now.v1.now in
    rw c.from_residual.ensures (first_large q _ _ u0-is refl c.in_err-first.ensures)

pub invariant_of-paired-2 : goal.invariant_of-paired-2
invariant_of-paired-2 c =
    let form = c.args.form.now in
    let areas = c.split_at_mut-p.ensures in
    let q = gram_of form in
    record {
      elements = row_words _ c.second_row.ensures.p_is c.second_row.ensures.q_is _ (c.second_row.auto.p ∙ c.first_row.auto.p ∙ areas.front_len) (omega (arith, c.second_row.auto.q, c.first_row.auto.q, areas.back_len, c.requires.v_long, c.requires.rows_long)) (small_adjoint q.q01 form.small_q01) form.small_q11;
    }

pub returns-in_err-second : goal.returns-in_err-second
returns-in_err-second c =
    let q = gram_of c.args.form.now in
    let u0-is = row_is _ c.first_row.ensures.p_is c.first_row.ensures.q_is c.args.v.now.v0.now c.args.v.now.v1.now in
    let u1-is = row_is _ c.second_row.ensures.p_is c.second_row.ensures.q_is c.args.v.now.v0.now c.args.v.now.v1.now in
    rw c.from_residual-in_err-second.ensures (second_large q _ _ u0-is u1-is c.in_err-second.ensures)

pub overflow_add-result : goal.overflow_add-result
overflow_add-result c =
    let q = gram_of c.args.form.now in
    let u0-is = row_is _ c.first_row.ensures.p_is c.first_row.ensures.q_is c.args.v.now.v0.now c.args.v.now.v1.now in
    let u1-is = row_is _ c.second_row.ensures.p_is c.second_row.ensures.q_is c.args.v.now.v0.now c.args.v.now.v1.now in
    total_fits q _ _ u0-is u1-is c.args.v.now.first c.args.v.now.second c.in_ok-first.ensures.0 c.in_ok-second.ensures.0 c.in_ok-first.ensures.1 c.in_ok-second.ensures.1

pub returns : goal.returns
returns c =
    let q = gram_of c.args.form.now in
    let u0-is = row_is _ c.first_row.ensures.p_is c.first_row.ensures.q_is c.args.v.now.v0.now c.args.v.now.v1.now in
    let u1-is = row_is _ c.second_row.ensures.p_is c.second_row.ensures.q_is c.args.v.now.v0.now c.args.v.now.v1.now in (
      both_kept q _ _ u0-is u1-is c.in_ok-first.ensures.0 c.in_ok-second.ensures.0,
      total_is q _ _ u0-is u1-is c.args.v.now.first c.args.v.now.second c.in_ok-first.ensures.0 c.in_ok-second.ensures.0 c.in_ok-first.ensures.1 c.in_ok-second.ensures.1,
    )
