use Rattle.std.proofs.Common.{◌≡◌, ◌*◌, ◌<◌, length, take, sym, ap, ◌∙◌, mul-zero, mul-le-mul_left, arith, rules}
use Rattle.std.proofs.lemmas.List.{take_all, take_more_set}
use Rattle.slip.proofs.Runs.{numbers_none, word_at, get_more, word_count}
use Rattle.slip.proofs.numbers.get_numbers.Goals as goal

pub loop-i-init : goal.loop-i-init
loop-i-init g c =
    let laws = g.met.N.SlipNumber in
    let n = g.N.SlipNumber in
    let e = numbers_none g.row.WIDTH n.bytes n.numbers laws.bytes_length laws.bytes_append laws.numbers_append in
    sym (ap (λ k. n.numbers (take k c.args.bytes.now)) (mul-zero g.row.WIDTH) ∙ e)

pub offset_bounds-numbers-i : goal.offset_bounds-numbers-i
offset_bounds-numbers-i g c =
    let count = word_count g.row.WIDTH _ _ _ g.met.N.SlipNumber.wide c.as_chunks.ensures.front_len c.requires in
    let h : c.loop-i.i < length c.args.numbers.now = omega (arith, count) in
    search rules

pub loop-i-preserved : goal.loop-i-preserved
loop-i-preserved g c =
    let laws = g.met.N.SlipNumber in
    let n = g.N.SlipNumber in
    let i = c.loop-i.i in
    let file = c.args.bytes.now in
    let read = c.index-words-i in
    let count = word_count g.row.WIDTH _ _ _ laws.wide c.as_chunks.ensures.front_len c.requires in
    let m = mul-le-mul_left {m = i} {n = length c.args.numbers.now} g.row.WIDTH (omega (arith, count)) in
    let word = word_at g.row.WIDTH i file read.result _ c.as_chunks.ensures.front (omega arith) read.is in
    let s = take_more_set c.loop-i.numbers i c.from_bytes.result (omega (arith, count)) in
    let r = get_more g.row.WIDTH n.bytes n.numbers laws.bytes_length laws.bytes_append laws.numbers_append i file _ c.from_bytes.result (omega arith) (search (rules, word)) c.from_bytes.ensures in
    cc

pub returns : goal.returns
returns g c =
    let count = word_count g.row.WIDTH _ _ _ g.met.N.SlipNumber.wide c.as_chunks.ensures.front_len c.requires in
    let i : c.loop-i.i ≡ length c.args.numbers.now = omega (arith, count) in
    let a = take_all c.loop-i.i c.loop-i.numbers (omega arith) in
    let e : g.row.WIDTH * c.loop-i.i ≡ length c.args.bytes.now = ap (λ k. g.row.WIDTH * k) i ∙ sym c.requires in
    let b = take_all (g.row.WIDTH * c.loop-i.i) c.args.bytes.now (omega arith) in
    cc
