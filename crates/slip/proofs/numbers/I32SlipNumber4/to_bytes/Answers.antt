use Rattle.std.proofs.Common.{◌≡◌, [], ◌∷◌, ap, ◌∙◌, rules}
use Rattle.slip.specs.Numbers.{bytes32, numbers32, split32}
use Rattle.slip.proofs.Bytes.{back32}
use Rattle.slip.proofs.numbers.I32SlipNumber4.to_bytes.Goals as goal

pub returns : goal.returns
unfolding bytes32 split32
returns c =
    let e : c.to_be_bytes.result ≡ bytes32 (c.args.self ∷ []) = search rules in
    record { bytes = e; back = ap numbers32 e ∙ back32 c.args.self c.ranges.self }
