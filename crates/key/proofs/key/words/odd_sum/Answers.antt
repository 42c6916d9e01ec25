use Rattle.std.proofs.Common.{sym, ◌∙◌, arith, lit≤}
use Rattle.scheme.specs.Keys.{key_limit}
use Rattle.key.proofs.Ranges.{bounded_from}
use Rattle.key.proofs.Totals.{total_none, total_all, sum_fits, sum_step, odd_is}
use Rattle.key.proofs.key.words.odd_sum.Goals as goal

pub loop-x-init : goal.loop-x-init
loop-x-init c = (sym (total_none c.args.numbers.now), omega arith)

pub overflow_add-sum : goal.overflow_add-sum
overflow_add-sum c =
    let xs = c.args.numbers.now in
    sum_fits key_limit xs c.loop-x.x-index _ (bounded_from key_limit xs c.requires.small) c.requires.few (lit≤ tt) c.loop-x-test.true c.loop-x.invariant.0 c.loop-x.invariant.1

pub loop-x-preserved : goal.loop-x-preserved
loop-x-preserved c =
    let xs = c.args.numbers.now in
    sum_step key_limit xs c.loop-x.x-index _ (bounded_from key_limit xs c.requires.small) c.requires.few (lit≤ tt) c.loop-x-test.true c.loop-x.invariant.0 c.loop-x.invariant.1

pub returns : goal.returns
returns c = odd_is c.rem_euclid.result _ _ c.rem_euclid.ensures.value (c.loop-x.invariant.0 ∙ total_all c.args.numbers.now c.loop-x.x-index c.loop-x-test.false)
