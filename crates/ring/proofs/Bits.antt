-- The bit kind, by cases.
use Rattle.std.proofs.Common.{◌≡◌, ◌+◌, ◌*◌, Bool, true, false, cond, not, ◌&&◌, pos, neg_ℤ, refl}
use mathlib.Core.Bool.{beq}
use Rattle.ring.specs.Kinds.{rest, bit_value}
use Rattle.ring.specs.declared.kind.Bit.{Bit}

abbrev bit : Bool → Bit
bit b = record { 0 = b }

pub bit_plus : (a b : Bool) → bit_value (bit (not (beq a b))) ≡ rest 2 (pos (cond a 1 0 + cond b 1 0))
unfolding rest
bit_plus true true = refl
bit_plus true false = refl
bit_plus false true = refl
bit_plus false false = refl

pub bit_negated : (a : Bool) → cond a 1 0 ≡ rest 2 (neg_ℤ (pos (cond a 1 0)))
unfolding rest
bit_negated true = refl
bit_negated false = refl

pub bit_times : (a b : Bool) → bit_value (bit (a && b)) ≡ rest 2 (pos (cond a 1 0 * cond b 1 0))
unfolding rest
bit_times true true = refl
bit_times true false = refl
bit_times false true = refl
bit_times false false = refl
