use Rattle.key.proofs.Determinants.{minus_fits, minus_is}
use Rattle.key.proofs.Fours.{four_words}
use Rattle.key.proofs.key.words.Words.determinant_at.Goals as goal

pub overflow_sub-result : goal.overflow_sub-result
overflow_sub-result c =
    let w = c.args.self.now in
    minus_fits w.f.now w.g.now w.cap_f.now w.cap_g.now c.args.k c.coefficient.result c.coefficient-2.result (four_words w) c.requires
    (record { sfits = c.coefficient.type_inv }) (record { sfits = c.coefficient-2.type_inv }) c.coefficient.ensures c.coefficient-2.ensures

pub returns : goal.returns
returns c =
    let w = c.args.self.now in
    minus_is w.f.now w.g.now w.cap_f.now w.cap_g.now c.args.k c.coefficient.result c.coefficient-2.result (four_words w) c.requires
    (record { sfits = c.coefficient.type_inv }) (record { sfits = c.coefficient-2.type_inv }) c.coefficient.ensures c.coefficient-2.ensures
