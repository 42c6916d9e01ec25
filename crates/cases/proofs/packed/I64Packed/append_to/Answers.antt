use Rattle.std.proofs.Common.{ap, rules, w64}
use Rattle.std.specs.Int.{to_be_bytes}
use Rattle.cases.proofs.Words.{word_is}
use Rattle.cases.proofs.packed.I64Packed.append_to.Goals as goal

pub returns : goal.returns
returns c =
    let e = ap (to_be_bytes w64) (word_is c.args.self c.ranges.self) in
    search (rules, e)
