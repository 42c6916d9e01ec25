use Rattle.std.proofs.Common.{◌≡◌, ◌/◌, length, map, vec_items, Ok, rules, arith}
use Rattle.std.proofs.lemmas.Bool.Decides.{nat_tests}
use Rattle.std.proofs.lemmas.Iterator.{items_from_collect, YieldsList-from_slice, YieldsList-from_map}
use Rattle.std.proofs.lemmas.Int.{to_z-of_z}
use Rattle.std.specs.Simd.{first_chunks}
use Rattle.script.specs.Operands.{number16, sample_in}
use Rattle.script.proofs.Pairs.{both, pairs_twos}
use Rattle.script.proofs.operand.sample.Goals as goal

pub returns-then-not-is_empty : goal.returns-then-not-is_empty
unfolding sample_in
returns-then-not-is_empty c = grind (arith, nat_tests)

pub returns : goal.returns
unfolding sample_in
returns c =
    let bytes = c.args.bytes.now in
    let read : vec_items c.in_ok-numbers.numbers ≡ map (both number16) (first_chunks 2 (length bytes / 2) bytes) =
    items_from_collect {E = Unit {0}} (Ok c.in_ok-numbers.numbers) c.in_ok-numbers.ensures.ran (YieldsList-from_map _ (both number16) (YieldsList-from_slice (first_chunks 2 (length bytes / 2) bytes) cc) c.map.ensures.closure (λ x r q k. search (rules, to_z-of_z))) in
    rw (read, pairs_twos number16 bytes) (grind (arith, nat_tests))
