-- What each call of a session does: its tests in their order, and its work. Assumes nothing.
use Rattle.std.specs.Prelude.{ℕ, ◌+◌, ◌*◌, Bool, false, not, ◌&&◌, ◌||◌, List, [], ◌∷◌, ◌++◌, length, drop, ℤ, is_some, Some, None, Option, ◌==◌, nat_le, nat_lt}
use Rattle.std.specs.Option.{unwrap_or}
use Rattle.std.specs.Str.{bytes_eq}
use Rattle.ring.specs.Classes.{size_of, bound_of, hash_length_of}
use Rattle.ring.specs.Faults.{Test, test, first_failing}
use Rattle.ring.specs.declared.class.Class.{Class}
use Rattle.ring.specs.declared.fault.Fault.{Fault}
use Rattle.scheme.specs.Hashes.{hash_pair}
use Rattle.scheme.specs.Keys.{Basis}
use Rattle.scheme.specs.Matrices.{Pair}
use Rattle.scheme.specs.Pairs.{pair_from, numbers_of, parities, is_zero, leader}
use Rattle.scheme.specs.Refusals.{session_fault}
use Rattle.scheme.specs.Sessions.{State, Call, announce, target, sign, withdraw, count, refused, ordered, aimed, signed, withdrawn, counted, Step, Event}
use Rattle.scheme.specs.Signing.{target_of, source_of, changes, signature_of, length_of}
use Rattle.scheme.specs.declared.fault.SessionFault.TheVariants.{Length, Coset, Bound, Zero, Standing, Order, Full, Logged}

-- the number of the order that stands, or of the next one
abbrev pub number_in : State → ℕ
number_in state = length state.entries + 1

-- the hash of the standing order; empty where none stands
abbrev pub standing_hash : State → List ℕ
standing_hash state = unwrap_or state.standing []

-- its 2n bits
unfoldable pub standing_pair : Class → State → Pair
standing_pair class state = hash_pair (size_of class) (standing_hash state)

-- whether a hash is one of the entries
unfoldable pub listed : List (List ℕ) → List ℕ → Bool
listed [] hash = false
listed (entry ∷ entries) hash = bytes_eq entry hash || listed entries hash

-- an order stands and has this number
abbrev pub order_test : State → ℕ → Test
order_test state order = test (is_some state.standing && order == number_in state) (session_fault Order)

unfoldable pub announce_tests : Class → State → List ℕ → List Test
announce_tests class state hash =
    test (length hash == hash_length_of class) (session_fault Length)
    ∷ test (not (is_some state.standing)) (session_fault Standing)
    ∷ test (nat_lt (length state.entries) state.capacity) (session_fault Full)
    ∷ test (not (listed state.entries hash)) (session_fault Logged)
    ∷ []

unfoldable pub target_tests : Class → State → ℕ → ℕ → ℕ → List Test
target_tests class state order area words =
    test (area == 2 * size_of class && words == 4 * size_of class) (session_fault Length)
    ∷ order_test state order
    ∷ []

-- the sample is B·h modulo 2; its squared length is at most L; v1 is not 0
unfoldable pub sample_tests : Class → Basis → Pair → Pair → List Test
sample_tests class b h x =
    test (bytes_eq (parities x) (target_of b h)) (session_fault Coset)
    ∷ test (nat_le (length_of x) (bound_of class)) (session_fault Bound)
    ∷ test (not (is_zero (leader (source_of b x).second))) (session_fault Zero)
    ∷ []

unfoldable pub sign_tests : Class → Basis → State → ℕ → List ℤ → ℕ → ℕ → List Test
sign_tests class b state order sample area words =
    test (length sample == 2 * size_of class && area == 2 * size_of class && words == 4 * size_of class) (session_fault Length)
    ∷ order_test state order
    ∷ sample_tests class b (standing_pair class state) (pair_from (size_of class) sample)

unfoldable pub withdraw_tests : State → ℕ → List Test
withdraw_tests state order = order_test state order ∷ []

abbrev pub tests_of : Class → Basis → State → Call → List Test
tests_of class b state (announce hash) = announce_tests class state hash
tests_of class b state (target order area words) = target_tests class state order (length area) words
tests_of class b state (sign order sample area words) = sign_tests class b state order sample (length area) words
tests_of class b state (withdraw order) = withdraw_tests state order
tests_of class b state count = []

-- the call's area before it
abbrev pub target_given : Call → List ℕ
target_given (announce hash) = []
target_given (target order area words) = area
target_given (sign order sample area words) = []
target_given (withdraw order) = []
target_given count = []

abbrev pub signature_given : Call → List ℤ
signature_given (announce hash) = []
signature_given (target order area words) = []
signature_given (sign order sample area words) = area
signature_given (withdraw order) = []
signature_given count = []

-- the state with another standing order, or none
abbrev pub with_order : State → Option (List ℕ) → State
with_order state standing = record { entries = state.entries; standing = standing; capacity = state.capacity; spare = state.spare }

-- the standing order's hash becomes an entry, over the first bytes of the spare ones, and the order ends
abbrev pub appended : Class → State → State
appended class state = record {
  entries = state.entries ++ (standing_hash state ∷ []);
  standing = None;
  capacity = state.capacity;
  spare = drop (hash_length_of class) state.spare;
}

-- what a call does where all its tests pass
unfoldable pub work : Class → Basis → State → Call → Step
work class b state (announce hash) = record {
  answer = ordered (number_in state);
  target_area = [];
  signature_area = [];
  after = with_order state (Some hash);
}
work class b state (target order area words) = record {
  answer = aimed;
  target_area = target_of b (standing_pair class state);
  signature_area = [];
  after = state;
}
work class b state (sign order sample area words) =
    let x = pair_from (size_of class) sample in
    record {
      answer = signed (length_of x) (changes (source_of b x));
      target_area = [];
      signature_area = numbers_of (signature_of b (standing_pair class state) x);
      after = appended class state;
    }
work class b state (withdraw order) = record {
  answer = withdrawn;
  target_area = [];
  signature_area = [];
  after = with_order state None;
}
work class b state count = record {
  answer = counted (length state.entries) state.capacity (is_some state.standing);
  target_area = [];
  signature_area = [];
  after = state;
}

-- a refusal leaves areas and state
abbrev pub refusal : State → Call → Fault → Step
refusal state call fault = record { answer = refused fault; target_area = target_given call; signature_area = signature_given call; after = state }

abbrev pub decided : Option Fault → Step → (Fault → Step) → Step
decided None done otherwise = done
decided (Some fault) done otherwise = otherwise fault

-- one call: the refusal of the first failing test, or the work
unfoldable pub step : Class → Basis → State → Call → Step
step class b state call = decided (first_failing (tests_of class b state call)) (work class b state call) (refusal state call)

-- a list of calls, each on what the earlier ones left
unfoldable pub run : Class → Basis → State → List Call → List Event
run class b state [] = []
run class b state (call ∷ calls) =
    record { before = state; call = call; step = step class b state call }
    ∷ run class b (step class b state call).after calls
