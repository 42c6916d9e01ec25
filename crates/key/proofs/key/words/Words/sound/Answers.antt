use Rattle.std.proofs.Common.{length, sym}
use Rattle.key.specs.Fours.{basis_as}
use Rattle.key.proofs.Sound.{even_f, even_g, wrong_determinant, all_sound}
use Rattle.key.proofs.key.words.Words.sound.Goals as goal

pub returns-then-not-odd_sum : goal.returns-then-not-odd_sum
returns-then-not-odd_sum c = even_f (length c.args.self.now.f.now) (basis_as c.args.self.now) (sym c.if-not-odd_sum.ensures)

pub returns-then-not-odd_sum-2 : goal.returns-then-not-odd_sum-2
returns-then-not-odd_sum-2 c =
    even_g (length c.args.self.now.f.now) (basis_as c.args.self.now) (sym c.if-not-odd_sum.ensures) (sym c.if-not-odd_sum-2.ensures)

pub returns-in-Some : goal.returns-in-Some
returns-in-Some c =
    wrong_determinant (length c.args.self.now.f.now) (basis_as c.args.self.now) c.in-Some.power
    (sym c.if-not-odd_sum.ensures) (sym c.if-not-odd_sum-2.ensures) c.in-Some.ensures.0 c.in-Some.ensures.1

pub returns-in-None : goal.returns-in-None
returns-in-None c = (
  all_sound (length c.args.self.now.f.now) (basis_as c.args.self.now)
      (sym c.if-not-odd_sum.ensures) (sym c.if-not-odd_sum-2.ensures) c.in-None.ensures,
  tt,
)
