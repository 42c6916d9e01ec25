use Rattle.std.proofs.Common.{◌≡◌, true, false, not, length, get_or, pos, rules, tests}
use Rattle.std.proofs.lemmas.Iterator.{first_from_Range}
use Rattle.scheme.specs.Pairs.{is_zero}
use Rattle.key.specs.Loading.{excess}
use Rattle.key.specs.Fours.{basis_as}
use Rattle.key.proofs.Determinants.{length_excess}
use Rattle.key.proofs.Firsts.{first_nonzero}
use Rattle.key.proofs.Fours.{four_words}
use Rattle.key.proofs.key.words.Words.first_wrong.Goals as goal

pub returns : goal.returns
returns c =
    let w = c.args.self.now in
    let whole = excess (length w.f.now) (basis_as w) in
    first_nonzero whole (length w.f.now) c.find.result (length_excess w.f.now w.g.now w.cap_f.now w.cap_g.now (four_words w))
    (first_from_Range _ _ _ _ (λ k. true ≡ not (is_zero (get_or whole k (pos 0)))) (λ k. false ≡ not (is_zero (get_or whole k (pos 0)))) c.find.ensures.ran
    (λ x q k. search (rules, tests))
    (λ x q k. (search rules, search (rules, tests))))
