use Rattle.std.proofs.Common.{sym, ap, ◌∙◌, arith}
use Rattle.slip.specs.Writes.{written}
use Rattle.slip.proofs.Areas.{written_none}
use Rattle.slip.proofs.Runs.{bytes_none, numbers_none, put_more, back_more}
use Rattle.slip.proofs.numbers.put_numbers.Goals as goal

pub loop-i-init : goal.loop-i-init
loop-i-init g c =
    let laws = g.met.N.SlipNumber in
    let n = g.N.SlipNumber in
    let b = bytes_none g.row.WIDTH n.bytes n.numbers laws.bytes_length laws.bytes_append laws.numbers_append in
    let e = numbers_none g.row.WIDTH n.bytes n.numbers laws.bytes_length laws.bytes_append laws.numbers_append in
    (sym (ap (λ l. written c.args.place l c.args.area.now) b ∙ written_none c.args.place c.args.area.now), ap n.numbers b ∙ e)

pub loop-i-preserved : goal.loop-i-preserved
loop-i-preserved g c =
    let laws = g.met.N.SlipNumber in
    let n = g.N.SlipNumber in
    let xs = c.args.numbers.now in
    let i = c.loop-i.i in
    let x = c.index-numbers-i in
    let word = c.to_bytes.ensures in (
      put_more g.row.WIDTH n.bytes n.numbers laws.bytes_length laws.bytes_append laws.numbers_append c.args.place i xs x.result c.args.area.now c.loop-i.area
          c.put.new.area c.to_bytes.result (omega arith) x.is (omega arith) c.loop-i.invariant.0 word.bytes c.put.ensures,
      back_more g.row.WIDTH n.bytes n.numbers laws.bytes_length laws.bytes_append laws.numbers_append i xs x.result c.to_bytes.result (omega arith) x.is
          c.loop-i.invariant.1 word.bytes word.back,
    )
