use Rattle.std.proofs.Common.{refl, ◌∙◌, arith}
use Rattle.ring.specs.Elements.{dot}
use Rattle.verify.proofs.Images.{term_fits, kept_more, sum_fits, sum_step, sum_grows, kept_whole, sum_whole}
use Rattle.verify.proofs.image.Row.paired.Goals as goal

pub loop-k-init : goal.loop-k-init
unfolding dot
loop-k-init c = record { kept = (omega arith, refl); sum_is = refl; small = omega arith }

pub overflow_mul-sum : goal.overflow_mul-sum
overflow_mul-sum c =
    term_fits c.args.self.now c.args.half.now c.loop-k.k c.at-u.result c.requires.half c.loop-k-test.true (record { sfits = c.at-u.type_inv }) c.at-u.ensures c.if-not-within.ensures

pub overflow_add-sum : goal.overflow_add-sum
overflow_add-sum c =
    sum_fits c.args.self.now c.args.half.now c.loop-k.k c.at-u.result c.requires.half c.loop-k-test.true (record { sfits = c.at-u.type_inv }) c.at-u.ensures c.if-not-within.ensures _ c.loop-k.invariant.sum_is c.loop-k.invariant.small

pub loop-k-preserved : goal.loop-k-preserved
loop-k-preserved c = record {
  kept = kept_more c.args.self.now c.args.half.now c.loop-k.k c.at-u.result c.requires.half c.loop-k-test.true (record { sfits = c.at-u.type_inv }) c.at-u.ensures c.if-not-within.ensures c.loop-k.invariant.kept;
  sum_is = sum_step c.args.self.now c.args.half.now c.loop-k.k c.at-u.result c.requires.half c.loop-k-test.true (record { sfits = c.at-u.type_inv }) c.at-u.ensures c.if-not-within.ensures _ c.loop-k.invariant.sum_is c.loop-k.invariant.small;
  small = sum_grows c.args.self.now c.args.half.now c.loop-k.k c.at-u.result c.requires.half c.loop-k-test.true (record { sfits = c.at-u.type_inv }) c.at-u.ensures c.if-not-within.ensures _ c.loop-k.invariant.sum_is c.loop-k.invariant.small;
}

pub returns : goal.returns
returns c = (
  kept_whole c.args.self.now c.args.half.now c.loop-k.k c.requires.half c.loop-k-test.false c.loop-k.invariant.kept,
  c.loop-k.invariant.sum_is ∙ sum_whole c.args.self.now c.args.half.now c.loop-k.k c.requires.half c.loop-k-test.false,
)
