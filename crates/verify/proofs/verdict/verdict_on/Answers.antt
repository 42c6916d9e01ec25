use Rattle.std.proofs.Common.{sym, w64, SFits, rules}
use Rattle.std.proofs.lemmas.Result.{err_from_is_err_and}
use Rattle.scheme.specs.Pairs.{pair}
use Rattle.key.specs.Gramheld.{gram_of}
use Rattle.verify.proofs.Verdicts.{none_of, some_of, beyond_limit, beyond_bound, wrong_sign, passes, length_told}
use Rattle.verify.proofs.verdict.verdict_on.Goals as goal

pub returns-in_err-sum : goal.returns-in_err-sum
returns-in_err-sum c =
    let form = c.args.form.now in
    let v = pair c.args.v.now.v0.now c.args.v.now.v1.now in
    let p = err_from_is_err_and c.from_residual.result c.from_residual.ensures.1 in
    let none = none_of c.length_under.result _ _ _ _ c.in_err-sum.ensures.value c.length_under.ensures in
    rw (p.1, p.2, none.0) (beyond_limit form.class (gram_of form) v none.1)

pub returns-in_err-length : goal.returns-in_err-length
returns-in_err-length c =
    let form = c.args.form.now in
    let v = pair c.args.v.now.v0.now c.args.v.now.v1.now in
    let summed = some_of c.length_under.result _ _ _ _ c.in_ok-sum.ensures.value c.length_under.ensures in
    let fits : SFits w64 c.in_ok-sum.sum = search rules in
    let p = err_from_is_err_and c.from_residual-in_err-length.result c.from_residual-in_err-length.ensures.1 in
    let none = none_of c.within_bound.result _ _ _ _ c.in_err-length.ensures.value c.within_bound.ensures in
    rw (p.1, p.2, none.0) (beyond_bound form.class (gram_of form) v summed.0 c.in_ok-sum.sum fits summed.1 (rw c.class.ensures at none.1))

pub returns-then-not-leads_positive : goal.returns-then-not-leads_positive
returns-then-not-leads_positive c =
    let form = c.args.form.now in
    let v = pair c.args.v.now.v0.now c.args.v.now.v1.now in
    let summed = some_of c.length_under.result _ _ _ _ c.in_ok-sum.ensures.value c.length_under.ensures in
    let fits : SFits w64 c.in_ok-sum.sum = search rules in
    let counted = some_of c.within_bound.result _ _ _ _ c.in_ok-length.ensures.value c.within_bound.ensures in
    wrong_sign form.class (gram_of form) v summed.0 c.in_ok-sum.sum fits summed.1 (rw c.class.ensures at counted.0) (sym c.if-not-leads_positive.ensures)

pub returns : goal.returns
returns c =
    let form = c.args.form.now in
    let v = pair c.args.v.now.v0.now c.args.v.now.v1.now in
    let summed = some_of c.length_under.result _ _ _ _ c.in_ok-sum.ensures.value c.length_under.ensures in
    let fits : SFits w64 c.in_ok-sum.sum = search rules in
    let counted = some_of c.within_bound.result _ _ _ _ c.in_ok-length.ensures.value c.within_bound.ensures in (
      passes form.class (gram_of form) v summed.0 c.in_ok-sum.sum fits summed.1 (rw c.class.ensures at counted.0) (sym c.if-not-leads_positive.ensures),
      length_told form.class (gram_of form) v summed.0 c.in_ok-sum.sum fits summed.1 c.in_ok-length.length counted.1,
    )
