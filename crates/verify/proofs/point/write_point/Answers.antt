use Rattle.std.proofs.Common.{◌+◌, get_or, pos, sym, ◌∙◌, arith, w32, SFits, rules}
use Rattle.verify.proofs.Passes.{copied_more, copied_all}
use Rattle.verify.specs.Images.{half_point}
use Rattle.verify.proofs.Points.{length_half, half_at, word_is}
use Rattle.verify.proofs.point.write_point.Goals as goal

pub loop-i-preserved : goal.loop-i-preserved
loop-i-preserved c =
    let s = c.args.numbers.now in
    let i = c.loop-i.i in
    let long = length_half c.args.start c.args.hash.now s in
    let fits : SFits w32 (get_or s i (pos 0)) = search rules in
    let stored = word_is c.args.hash.now (c.args.start + i) c.hash_bit.result c.from.result c.from-in-loop-i.result (get_or s i (pos 0)) c.hash_bit.ensures c.from.ensures fits c.from-in-loop-i.ensures in
    copied_more c.loop-i.words (half_point c.args.start c.args.hash.now s) i _ (omega arith) (omega arith)
    (stored ∙ sym (half_at c.args.start c.args.hash.now s i c.loop-i-test.true)) c.loop-i.invariant

pub returns : goal.returns
returns c =
    let long = length_half c.args.start c.args.hash.now c.args.numbers.now in
    copied_all c.loop-i.words (half_point c.args.start c.args.hash.now c.args.numbers.now) c.loop-i.i (omega arith) (omega arith) c.loop-i.invariant
