use Rattle.std.proofs.Common.{pos, neg_ℤ, sym, ap, ◌∙◌, rules}
use Rattle.ring.specs.Kinds.{rest}
use Rattle.ring.proofs.Entries.{turned_read_front, turned_read_back}
use Rattle.ring.proofs.strip.Turned.at.Goals as goal

pub returns-then-i-self : goal.returns-then-i-self
returns-then-i-self g c = (
  search rules,
  turned_read_front g.K.Coefficient.modulus g.K.Coefficient.residue c.args.self.now.numbers.now c.args.self.now.turn c.args.i c.index-self-n.result _
      c.if-self-n.false c.if-i-self.true c.index-self-n.is
      (c.negated.ensures ∙ ap (λ x. rest g.K.Coefficient.modulus (neg_ℤ (pos (g.K.Coefficient.residue x)))) (sym c.index-self-n.is)),
)

pub returns-else-i-self : goal.returns-else-i-self
returns-else-i-self g c = (
  search rules,
  ap g.K.Coefficient.residue (sym c.index-self-i.is)
      ∙ turned_read_back g.K.Coefficient.modulus g.K.Coefficient.residue c.args.self.now.numbers.now c.args.self.now.turn c.args.i c.index-self-i.result
      c.if-self-n.false c.if-i-self.false c.if-i-n.false c.index-self-i.is (g.met.K.Coefficient.below c.index-self-i.result),
)
