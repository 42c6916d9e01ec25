use Rattle.std.proofs.Common.{set, ap}
use Rattle.key.proofs.memory.constant.Goals as goal

pub returns : goal.returns
returns g c = ap (λ xs. set xs 0 c.args.c) c.filled-numbers.ensures
