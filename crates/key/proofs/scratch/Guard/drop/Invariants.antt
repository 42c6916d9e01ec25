use Rattle.std.proofs.Common.{◌≡◌, take, replicate}
use Rattle.key.proofs.scratch.Guard.drop.Given as goal

abbrev pub invariant-loop-word : goal.invariant-loop-word
invariant-loop-word g l = take l.word-index l.word-items ≡ replicate l.word-index g.K.Coefficient.ZERO
