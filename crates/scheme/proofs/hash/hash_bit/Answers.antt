use Rattle.std.proofs.Common.{◌/◌, ◌%◌, ◌^◌, ◌≤◌, length, rules}
use native.Mathlib.Nat.{zero-div}
use Rattle.std.proofs.lemmas.List.{get_or_past}
use Rattle.scheme.specs.Hashes.{hash_bit}
use Rattle.scheme.proofs.hash.hash_bit.Goals as goal

pub returns-in-Some : goal.returns-in-Some
unfolding hash_bit
returns-in-Some c = search rules

pub returns-in-None : goal.returns-in-None
unfolding hash_bit
returns-in-None c =
    let past : length c.args.hash.now ≤ c.args.i / 8 = search rules in
    rw (get_or_past c.args.hash.now (c.args.i / 8) 0 past, zero-div (2 ^ (c.args.i % 8)))
