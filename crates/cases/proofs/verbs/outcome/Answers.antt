use Rattle.std.proofs.Common.{vec_items}
use Rattle.cases.specs.Rings.{ring_outcome}
use Rattle.cases.specs.Outcomes.{outcome_of}
use Rattle.cases.proofs.Giving.{gives_same}
use Rattle.cases.proofs.Others.{ring_verb}
use Rattle.cases.proofs.verbs.outcome.Goals as goal

pub returns-in_default : goal.returns-in_default
returns-in_default c =
    let verb = c.args.case.now.verb.now in
    let fields = c.args.case.now.fields.now in
    let other = c.in_default in
    gives_same vec_items (outcome_of verb fields) (ring_outcome verb fields) c.run.result
    (ring_verb verb fields other.not-read other.not-text other.not-text-2 other.not-text-3 other.not-text-4 other.not-text-5 other.not-text-6 other.not-text-7 other.not-verify other.not-measure) c.run.ensures
