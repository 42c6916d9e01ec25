-- What the calls that a session matches stand for. Assumes nothing.
use Rattle.std.specs.Prelude.{ℕ, ◌*◌, Bool, true, ◌&&◌, List, length, ℤ, ◌==◌}
use Rattle.ring.specs.Classes.{size_of, hash_length_of}
use Rattle.ring.specs.declared.class.Class.{Class}
use Rattle.scheme.specs.Sessions.{Call, announce, target, sign, withdraw, count}
use Rattle.session.specs.declared.ask.Ask.{Ask}
use Rattle.session.specs.declared.ask.Ask.TheVariants.{Announce, Target, Sign, Withdraw}

-- a call with what the areas hold before it, and the words of its scratch
abbrev pub call_of : Ask → List ℕ → List ℤ → ℕ → Call
call_of (Announce hash) target_area signature_area words = announce hash.now
call_of (Target order) target_area signature_area words = target order.now.number target_area words
call_of (Sign order sample) target_area signature_area words = sign order.now.number sample.now signature_area words
call_of (Withdraw order) target_area signature_area words = withdraw order.now.number

-- the lists of a call have the lengths of the class
abbrev pub fitting : Class → Call → Bool
fitting class (announce hash) = length hash == hash_length_of class
fitting class (target order area words) = length area == 2 * size_of class && words == 4 * size_of class
fitting class (sign order sample area words) = length sample == 2 * size_of class && length area == 2 * size_of class && words == 4 * size_of class
fitting class (withdraw order) = true
fitting class count = true
