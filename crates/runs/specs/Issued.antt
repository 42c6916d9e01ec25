-- The signatures that a run issues. Assumes nothing.
use Rattle.std.specs.Prelude.{◌≡◌, ℕ, ◌<◌, List, [], ◌∷◌, ◌++◌, map, ℤ, ◌≢◌}
use Rattle.std.specs.List.{AllByRecursion}
use Rattle.ring.specs.Classes.{size_of}
use Rattle.ring.specs.declared.class.Class.{Class}
use Rattle.scheme.specs.Keys.{Basis, form_of, Within}
use Rattle.scheme.specs.Pairs.{pair_from}
use Rattle.scheme.specs.Sessions.{State, Call, announce, target, sign, withdraw, count, Answer, refused, ordered, aimed, signed, withdrawn, counted, Step, Event}
use Rattle.scheme.specs.Signing.{length_of}
use Rattle.scheme.specs.Steps.{standing_hash}
use Rattle.scheme.specs.Verdicts.{Accepted}

-- a call whose arguments are of their types: a hash is bytes, a sample is 16-bit numbers other than −32,768
abbrev pub Given : Call → Type 0
Given (announce hash) = AllByRecursion (λ byte. byte < 256) hash
Given (target order area words) = Unit {0}
Given (sign order sample area words) = AllByRecursion (Within 32767) sample
Given (withdraw order) = Unit {0}
Given count = Unit {0}

-- a signature, with its order's hash, its sample and the answered length
pub record Issue : Type 0 where
  pub hash : List ℕ
  pub sample : List ℤ
  pub signature : List ℤ
  pub length : ℕ

-- the signature that an answer stands for, or none
abbrev pub issue_by : List ℕ → List ℤ → List ℤ → Answer → List Issue
issue_by hash sample signature (refused fault) = []
issue_by hash sample signature (ordered number) = []
issue_by hash sample signature aimed = []
issue_by hash sample signature (signed length changed) = record { hash = hash; sample = sample; signature = signature; length = length } ∷ []
issue_by hash sample signature withdrawn = []
issue_by hash sample signature (counted issued capacity standing) = []

abbrev pub issue_at : State → Call → Step → List Issue
issue_at before (announce hash) step = []
issue_at before (target order area words) step = []
issue_at before (sign order sample area words) step = issue_by (standing_hash before) sample step.signature_area step.answer
issue_at before (withdraw order) step = []
issue_at before count step = []

-- the signatures issued in a run, oldest first
unfoldable pub issues_of : List Event → List Issue
issues_of [] = []
issues_of (event ∷ events) = issue_at event.before event.call event.step ++ issues_of events

-- no two of them are equal
abbrev pub Different : {X : Type 0} → List X → Type 0
Different [] = Unit {0}
Different (x ∷ xs) = AllByRecursion (λ y. x ≢ y) xs × Different xs

-- accepted under the key's form and its order's hash, with its sample's squared length as N
pub record Stands (class : Class) (b : Basis) (issue : Issue) : Type 0 where
  pub accepted : Accepted class (form_of b) issue.hash issue.signature issue.length
  pub length_is : issue.length ≡ length_of (pair_from (size_of class) issue.sample)

-- the entries of the log after a run
abbrev pub entries_after : State → List Event → List (List ℕ)
entries_after state [] = state.entries
entries_after state (event ∷ events) = entries_after event.step.after events

-- what every run of a session keeps
pub record Lawful (class : Class) (b : Basis) (start : State) (events : List Event) : Type 0 where
  pub stand : AllByRecursion (Stands class b) (issues_of events)
  -- no hash gets two signatures
  pub hashes_differ : Different (map (λ i. i.hash) (issues_of events))
  -- no two hashes are signed with one sample
  pub samples_differ : Different (map (λ i. i.sample) (issues_of events))
  -- the log has just the hashes of the issued signatures
  pub entries_are : entries_after start events ≡ map (λ i. i.hash) (issues_of events)
