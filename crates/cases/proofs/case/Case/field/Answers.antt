use Rattle.std.proofs.Common.{◌≡◌, Some, lit<, sym, ap, ◌∙◌, rules, tests}
use Rattle.std.specs.Option.{option_map}
use Rattle.std.proofs.lemmas.Iterator.Splits.{YieldsList-from_str_split}
use Rattle.cases.specs.Lines.{field_in, value_of}
use Rattle.cases.proofs.Folding.{first_from_find_map}
use Rattle.cases.proofs.Giving.{gives_none}
use Rattle.cases.proofs.case.Case.field.Goals as goal

pub returns-in_err-ok_or : goal.returns-in_err-ok_or
unfolding field_in
returns-in_err-ok_or c =
    let e : option_map (λ x. x.now) c.find_map-value.result ≡ field_in c.args.name.now c.args.self.now.fields.now =
    first_from_find_map _ _ _ (λ x. x.now) (value_of c.args.name.now) _ (λ x r q h. search (rules, tests)) c.find_map-value.result _ _ _ c.find_map-value.ensures.ran c.find_map-value.ensures.runs
    (YieldsList-from_str_split 32 c.args.self.now.fields.now (lit< tt) c.split.ensures.text c.split.ensures.has_more c.split.ensures.pattern) in
    gives_none (λ x. x.now) (field_in c.args.name.now c.args.self.now.fields.now) c.from_residual.result (sym e ∙ ap (option_map (λ x. x.now)) c.in_err-ok_or.ensures.ok_part) c.from_residual.ensures.0

pub returns : goal.returns
unfolding field_in
returns c =
    let e : option_map (λ x. x.now) c.find_map-value.result ≡ field_in c.args.name.now c.args.self.now.fields.now =
    first_from_find_map _ _ _ (λ x. x.now) (value_of c.args.name.now) _ (λ x r q h. search (rules, tests)) c.find_map-value.result _ _ _ c.find_map-value.ensures.ran c.find_map-value.ensures.runs
    (YieldsList-from_str_split 32 c.args.self.now.fields.now (lit< tt) c.split.ensures.text c.split.ensures.has_more c.split.ensures.pattern) in
    sym e ∙ ap (option_map (λ x. x.now)) c.in_ok-ok_or.ensures.ok_part ∙ ap Some (sym c.as_bytes.ensures.value)
