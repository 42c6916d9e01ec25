use Rattle.std.proofs.Common.{◌≡◌, string_bytes, append_assoc, ◌∙◌}
use Rattle.std.proofs.lemmas.Result.{IfOk-weaker}
use Rattle.answers.specs.Lines.{refusal_line}
use Rattle.answers.proofs.refusal.refusal_line.Goals as goal

pub returns : goal.returns
returns c = IfOk-weaker c.format.result _ (λ t. string_bytes t ≡ refusal_line c.args.fault) (λ t e. e ∙ simp append_assoc) c.format.ensures.ok
