use Rattle.std.proofs.Common.{pos, sym, ◌∙◌, arith, w32, SFits}
use Rattle.std.proofs.lemmas.Int.{to_z-of_z}
use Rattle.key.specs.Making.{starred}
use Rattle.key.proofs.Copies.{copied_more, copied_all}
use Rattle.key.proofs.Rows.{length_starred, starred_at}
use Rattle.key.proofs.form.make.write_sums.Goals as goal

pub loop-k-preserved : goal.loop-k-preserved
loop-k-preserved c =
    let top = c.args.top.now in
    let bottom = c.args.bottom.now in
    let size = length_starred top.a.now top.b.now bottom.a.now bottom.b.now top.few c.requires.same in
    let fits : SFits w32 c.sum_at.result = record { sfits = c.sum_at.type_inv } in
    copied_more c.loop-k.numbers (starred top.a.now top.b.now bottom.a.now bottom.b.now) c.loop-k.k _ (pos 0) (omega arith) (omega (arith, size))
    (to_z-of_z w32 c.sum_at.result fits ∙ c.sum_at.ensures
    ∙ sym (starred_at top.a.now top.b.now bottom.a.now bottom.b.now top.few c.requires.same c.loop-k.k (omega arith))) c.loop-k.invariant

pub returns : goal.returns
returns c =
    let top = c.args.top.now in
    let bottom = c.args.bottom.now in
    let size = length_starred top.a.now top.b.now bottom.a.now bottom.b.now top.few c.requires.same in
    copied_all c.loop-k.numbers (starred top.a.now top.b.now bottom.a.now bottom.b.now) c.loop-k.k (omega arith) (omega (arith, size)) c.loop-k.invariant
