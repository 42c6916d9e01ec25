use Rattle.std.proofs.Common.{◌≡◌, cond, nat_le, Some, None, MatchResult, rules, sym, arith, lit<}
use Rattle.std.proofs.lemmas.Str.Pattern.{starts_char}
use Rattle.std.proofs.lemmas.Bool.Decides.{not_from_Decides}
use Rattle.script.proofs.Numerals.{number_plus, number_parsed}
use Rattle.script.proofs.operand.number.Goals as goal

pub returns-then-starts_with : goal.returns-then-starts_with
returns-then-starts_with c =
    let plus = starts_char 43 c.args.text.now c.starts_with.result c.starts_with.ensures.cases (lit< tt) (lit< tt) in
    sym (number_plus c.args.most c.args.text.now (plus.0 c.if-starts_with.true))

pub returns : goal.returns
returns c =
    let plus = starts_char 43 c.args.text.now c.starts_with.result c.starts_with.ensures.cases (lit< tt) (lit< tt) in
    let kept : MatchResult c.parse.result (λ n. c.filter.result ≡ cond (nat_le n c.args.most) (Some n) None) (λ _. c.filter.result ≡ None) = search rules in
    number_parsed c.args.most c.args.text.now c.parse.result c.filter.result c.parse.ensures.value.0 (not_from_Decides c.starts_with.result plus c.if-starts_with.false) (omega arith) kept
