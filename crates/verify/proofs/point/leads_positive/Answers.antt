use Rattle.std.proofs.Common.{◌≡◌, pos, not, eqb, ap, ◌∙◌, w64, to_z, of_z, SFits, rules, tests}
use lib.Signed.{lt_z}
use Rattle.std.proofs.lemmas.Iterator.{YieldsList-from_slice}
use Rattle.std.proofs.lemmas.Iterator.Search.{find_from_yields_List}
use Rattle.std.proofs.lemmas.Int.{to_z-of_z}
use Rattle.scheme.specs.Pairs.{is_zero}
use Rattle.verify.proofs.Points.{leader_positive, other_word, positive_is}
use Rattle.verify.proofs.point.leads_positive.Goals as goal

pub returns : goal.returns
returns c =
    let found = find_from_yields_List (λ z. not (is_zero z)) _ _ c.find.result c.find.ensures.ran (YieldsList-from_slice c.args.words.now cc)
    (λ x b q k.
    let fits : SFits w64 x.now = search rules in
    let read : b ≡ not (eqb (of_z w64 x.now) 0) = search (rules, tests) in
    (search rules, read ∙ ap not (other_word x.now fits))) in
    leader_positive (λ x. x.now) c.args.words.now c.find.result _ c.is_some_and.result found
    (λ x k.
    let fits : SFits w64 x.now = search rules in
    let read : c.is_some_and.result ≡ lt_z (pos 0) (to_z w64 (of_z w64 x.now)) = search rules in
    read ∙ ap (lt_z (pos 0)) (to_z-of_z w64 x.now fits) ∙ positive_is x.now) c.is_some_and.ensures
