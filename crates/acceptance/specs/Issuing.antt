-- A signature is accepted exactly when some sample makes the signer issue it, and exactly two do. Assumes nothing.
use Rattle.std.specs.Prelude.{◌≡◌, ℕ, ◌*◌, ◌≤◌, Bool, true, false, ◌⊎◌, List, [], ◌∷◌, map, length, ℤ, None}
use Rattle.std.specs.List.{AllByRecursion}
use Rattle.ring.specs.Classes.{size_of, hash_length_of}
use Rattle.ring.specs.Elements.{negative}
use Rattle.ring.specs.Faults.{first_failing}
use Rattle.ring.specs.declared.class.Class.{Class}
use Rattle.scheme.specs.Hashes.{hash_pair}
use Rattle.scheme.specs.Keys.{Basis, IsKey, form_of, Within}
use Rattle.scheme.specs.Matrices.{Pair, PairOf, applied, basis_of}
use Rattle.scheme.specs.Pairs.{numbers_of}
use Rattle.scheme.specs.Sessions.{opened, announce, sign, Answer, ordered, signed, Event}
use Rattle.scheme.specs.Signing.{signature_of, length_of}
use Rattle.scheme.specs.Steps.{run, sample_tests}
use Rattle.scheme.specs.Verdicts.{Accepted, point_of}

-- a key's signature of a sample that passes its tests
abbrev pub IssuedIsAccepted : Type 0
IssuedIsAccepted =
    (class : Class) (b : Basis) → IsKey (size_of class) b → (hash : List ℕ) → length hash ≡ hash_length_of class → (x : Pair) → PairOf (size_of class) x
    → first_failing (sample_tests class b (hash_pair (size_of class) hash) x) ≡ None
    → Accepted class (form_of b) hash (numbers_of (signature_of b (hash_pair (size_of class) hash) x)) (length_of x)

abbrev pub answers : List Event → List Answer
answers events = map (λ e. e.step.answer) events

abbrev pub signatures : List Event → List (List ℤ)
signatures events = map (λ e. e.step.signature_area) events

-- the signer: a session just opened on the key with this log, where the hash is announced and then signed with
-- a sample, into an area with these contents
unfoldable pub signer : Class → Basis → List ℕ → List ℕ → List ℤ → List ℤ → List Event
signer class b log hash area sample = run class b (opened class log) (announce hash ∷ sign 1 sample area (4 * size_of class) ∷ [])

-- the signer issues s for the sample, and answers N and whether the sign changed
pub record Issues (class : Class) (b : Basis) (log : List ℕ) (hash : List ℕ) (area sample s : List ℤ) (N : ℕ) (changed : Bool) : Type 0 where
  pub answers_are : answers (signer class b log hash area sample) ≡ ordered 1 ∷ signed N changed ∷ []
  pub signatures_are : signatures (signer class b log hash area sample) ≡ [] ∷ s ∷ []

-- x = B·(h − 2s)
unfoldable pub sample_of : Class → Basis → List ℕ → List ℤ → List ℤ
sample_of class b hash s = numbers_of (applied (basis_of b) (point_of (size_of class) hash s))

-- x and −x issue s, with N; they differ and fit 16 bits; no other sample does
pub record ExactlyTwo (class : Class) (b : Basis) (log : List ℕ) (hash : List ℕ) (area s : List ℤ) (N : ℕ) : Type 0 where
  pub kept : Issues class b log hash area (sample_of class b hash s) s N false
  pub changed : Issues class b log hash area (negative (sample_of class b hash s)) s N true
  pub in_range : AllByRecursion (Within 32767) (sample_of class b hash s)
  pub apart : sample_of class b hash s ≡ negative (sample_of class b hash s) → ⊥
  pub no_other : (x : List ℤ) (M : ℕ) (c : Bool) → Issues class b log hash area x s M c
      → (x ≡ sample_of class b hash s) ⊎ (x ≡ negative (sample_of class b hash s))

-- for one hash and one list s, with any log that has room for an entry and any area of 2n numbers
pub record AcceptedIsIssued (class : Class) (b : Basis) (hash : List ℕ) (s : List ℤ) : Type 0 where
  pub issued : (N : ℕ) → Accepted class (form_of b) hash s N → (log : List ℕ) → hash_length_of class ≤ length log
      → (area : List ℤ) → length area ≡ 2 * size_of class → ExactlyTwo class b log hash area s N
  pub accepted : (log : List ℕ) (area sample : List ℤ) (N : ℕ) (changed : Bool) → Issues class b log hash area sample s N changed
      → Accepted class (form_of b) hash s N

abbrev pub AcceptedIsAlwaysIssued : Type 0
AcceptedIsAlwaysIssued = (class : Class) (b : Basis) → IsKey (size_of class) b → (hash : List ℕ) (s : List ℤ) → AcceptedIsIssued class b hash s
