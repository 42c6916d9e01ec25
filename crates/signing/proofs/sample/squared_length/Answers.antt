use Rattle.std.proofs.Common.{◌∙◌, rules}
use Rattle.std.proofs.lemmas.Iterator.{YieldsList-from_slice, YieldsList-from_map}
use Rattle.std.proofs.lemmas.Iterator.Consumers.{sum_by_from_yields_List}
use Rattle.signing.proofs.Squares.{square, squares_of}
use Rattle.signing.proofs.sample.squared_length.Goals as goal

pub returns : goal.returns
returns c =
    let xs = c.args.sample.now in
    sum_by_from_yields_List square xs _ c.sum.result c.sum.ensures.ran (YieldsList-from_map _ square (YieldsList-from_slice xs cc) c.map.ensures.closure (λ x r q k. search rules)) ∙ squares_of xs
