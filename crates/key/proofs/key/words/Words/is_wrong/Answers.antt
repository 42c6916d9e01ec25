use Rattle.key.proofs.Determinants.{wrong_is}
use Rattle.key.proofs.Fours.{four_words}
use Rattle.key.proofs.key.words.Words.is_wrong.Goals as goal

pub returns : goal.returns
returns c =
    let w = c.args.self.now in
    wrong_is w.f.now w.g.now w.cap_f.now w.cap_g.now (four_words w) c.args.k c.determinant_at.result c.from.result c.requires
    (record { sfits = c.determinant_at.type_inv }) (record { sfits = c.from.type_inv }) c.determinant_at.ensures c.from.ensures
