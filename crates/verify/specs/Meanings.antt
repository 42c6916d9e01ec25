-- What the verdict means for the keys that have the form. Assumes nothing.
use Rattle.std.specs.Prelude.{◌≡◌, ℕ, ◌*◌, ◌≤◌, Bool, true, List, length, ℤ, Ok, Err, Result}
use Rattle.ring.specs.Classes.{size_of, bound_of, hash_length_of}
use Rattle.ring.specs.declared.class.Class.{Class}
use Rattle.scheme.specs.Keys.{Basis, IsKey, Gram, form_of}
use Rattle.scheme.specs.Pairs.{up_to}
use Rattle.scheme.specs.Verdicts.{length_under, point_of, verify_sizes}
use Rattle.scheme.specs.declared.fault.CheckFault.{CheckFault}
use Rattle.acceptance.specs.Issuing.{ExactlyTwo, Issues}
use Rattle.acceptance.specs.Limits.{LimitsKept}

-- a key that has this form
pub record HasForm (class : Class) (q : Gram) (b : Basis) : Type 0 where
  pub is_key : IsKey (size_of class) b
  pub form_is : form_of b ≡ q

-- under a key's form the limits on s and u refuse nothing that the bound L lets through
abbrev pub LimitsHarmless : Class → Gram → List ℕ → List ℤ → Type 0
LimitsHarmless class q hash s =
    (b : Basis) → HasForm class q b → length s ≡ 2 * size_of class
    → up_to (bound_of class) (length_under q (point_of (size_of class) hash s)) ≡ true → LimitsKept class b hash s

-- An accepted signature is one that the signer issues, for exactly two samples and with N; any log that has room
-- for an entry will do, and any area of 2n numbers. A signature that is refused, and not for a length, is never issued.
abbrev pub Meant : Class → Gram → List ℕ → List ℤ → ℕ → Result ℕ CheckFault → Type 0
Meant class q hash s words (Ok N) =
    (b : Basis) → HasForm class q b → (log : List ℕ) → hash_length_of class ≤ length log → (area : List ℤ) → length area ≡ 2 * size_of class
    → ExactlyTwo class b log hash area s N
Meant class q hash s words (Err e) =
    (verify_sizes class hash s words).passes ≡ true → (b : Basis) → HasForm class q b
    → (log : List ℕ) (area sample : List ℤ) (N : ℕ) (changed : Bool) → Issues class b log hash area sample s N changed → ⊥
