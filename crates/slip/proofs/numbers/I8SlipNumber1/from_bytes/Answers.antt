use Rattle.std.proofs.Common.{rules, w8, SFits}
use Rattle.std.proofs.lemmas.Int.{to_z-of_z}
use Rattle.slip.proofs.Bytes.{one8}
use Rattle.slip.proofs.numbers.I8SlipNumber1.from_bytes.Goals as goal

pub returns : goal.returns
returns c =
    let f : SFits w8 c.from_be_bytes.result = search rules in
    let e = one8 c.args.word.now c.told-word in
    let b = to_z-of_z w8 c.from_be_bytes.result f in
    cc
