use Rattle.std.proofs.Common.{◌≡◌, ◌/◌, length, map, vec_items, Some, Ok, sym, ap, ◌∙◌, rules, arith}
use Rattle.std.proofs.lemmas.Bool.Decides.{nat_tests, not_from_Decides}
use Rattle.std.proofs.lemmas.Iterator.{items_from_collect, YieldsList-from_slice, YieldsList-from_map}
use Rattle.std.specs.Simd.{first_chunks}
use Rattle.script.specs.Hexadecimal.{hex_byte}
use Rattle.script.proofs.Pairs.{both, pairs_twos}
use Rattle.script.proofs.Texts.{is_dash, bytes_dash, bytes_none, bytes_some}
use Rattle.script.proofs.hex.hex_bytes.Goals as goal

pub returns-then-eq : goal.returns-then-eq
returns-then-eq c =
    let dash = is_dash c.args.text.now c.as_slice.result.now c.eq.result c.eq.ensures c.as_slice.ensures in
    ap Some c.new.ensures.items ∙ sym (bytes_dash c.args.text.now (dash.0 c.if-eq.true))

pub returns-then-not-is_hex : goal.returns-then-not-is_hex
returns-then-not-is_hex c =
    let dash = is_dash c.args.text.now c.as_slice.result.now c.eq.result c.eq.ensures c.as_slice.ensures in
    sym (bytes_none c.args.text.now (not_from_Decides c.eq.result dash c.if-eq.false) (grind (arith, nat_tests)))

pub returns : goal.returns
returns c =
    let text = c.args.text.now in
    let dash = is_dash text c.as_slice.result.now c.eq.result c.eq.ensures c.as_slice.ensures in
    let read : vec_items c.in_ok-bytes.bytes ≡ map (both hex_byte) (first_chunks 2 (length text / 2) text) =
    items_from_collect {E = Unit {0}} (Ok c.in_ok-bytes.bytes) c.in_ok-bytes.ensures.ran (YieldsList-from_map _ (both hex_byte) (YieldsList-from_slice (first_chunks 2 (length text / 2) text) cc) c.map.ensures.closure (λ x r q k. search rules)) in
    ap Some (read ∙ pairs_twos hex_byte text) ∙ sym (bytes_some text (not_from_Decides c.eq.result dash c.if-eq.false) (grind (arith, nat_tests)))
