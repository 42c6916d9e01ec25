use Rattle.std.proofs.Common.{◌≡◌, rules, w32, SFits, to_z}
use Rattle.std.proofs.lemmas.Int.{to_z-of_z}
use Rattle.slip.specs.Slips.{at32}
use Rattle.slip.proofs.Bytes.{one32}
use Rattle.slip.proofs.numbers.I32SlipNumber4.from_bytes.Goals as goal

pub returns : goal.returns
unfolding at32
returns c =
    let f : SFits w32 c.from_be_bytes.result = search rules in
    let e = one32 c.args.word.now c.told-word in
    let b = to_z-of_z w32 c.from_be_bytes.result f in
    let a : c.from_be_bytes.result ≡ to_z w32 (at32 c.args.word.now 0) = search rules in
    cc
