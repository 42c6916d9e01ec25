use Rattle.std.proofs.Common.{ap, ◌∙◌, rules, tests}
use Rattle.std.specs.Slice.Iter.{chunks_exact_size, chunks_exact_rest}
use Rattle.session.proofs.Runs.{found}
use Rattle.session.proofs.log.holds.Goals as goal

pub returns : goal.returns
returns c =
    let any = c.any.ensures.runs in
    let p = any.0 in
    let take = c.take.ensures.runs p p.seen any.1 in
    let q = take.1.0 in
    let made = c.chunks_exact.ensures in
    found _ _ c.args.size c.args.count c.args.log.now c.args.hash (λ x b k. search (rules, tests)) p q c.requires.size c.requires.room take.0 take.1.2.0 take.1.2.1
    (ap chunks_exact_size take.1.1 ∙ made.size) (ap chunks_exact_rest take.1.1 ∙ made.rest) (made.runs q q.seen) (λ a r f k. search (rules, tests)) c.any.result any.2
