use Rattle.std.proofs.Common.{◌≡◌, [], ◌∷◌, ap, ◌∙◌, rules}
use Rattle.slip.specs.Numbers.{bytes8, numbers8}
use Rattle.slip.proofs.Bytes.{back8}
use Rattle.slip.proofs.numbers.I8SlipNumber1.to_bytes.Goals as goal

pub returns : goal.returns
unfolding bytes8
returns c =
    let e : c.to_be_bytes.result ≡ bytes8 (c.args.self ∷ []) = search rules in
    record { bytes = e; back = ap numbers8 e ∙ back8 c.args.self c.ranges.self }
