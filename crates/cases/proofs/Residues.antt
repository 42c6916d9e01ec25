-- The bytes of elements, by their residues.
use Rattle.std.proofs.Common.{◌≡◌, ℕ, suc, List, [], ◌∷◌, map, length, ℤ, Ok, Err, Some, Result, Vec, Global, vec_items, refl, sym, ap, ◌∙◌}
use Rattle.std.specs.List.{flat_map}
use Rattle.ring.specs.declared.fault.RingFault.{RingFault}
use Rattle.ring.specs.Faults.{Test, first_failing, Answers, ring_fault}
use Rattle.ring.specs.Kinds.{rest, values}
use Rattle.cases.specs.Texts.{outcome_or, bytes_text, answered_text}
use Rattle.cases.specs.Rings.{list_text}
use Rattle.cases.specs.Stops.{Gives}
use Rattle.cases.specs.declared.stop.Stop.{Stop}
use Rattle.cases.proofs.Giving.{gives_same}

pub values_long : {X : Type 0} (residue : X → ℕ) (xs : List X) → length (values residue xs) ≡ length xs
values_long residue [] = refl
values_long residue (x ∷ xs) = ap suc (values_long residue xs)

module _ {X : Type 0} (m : ℕ) (residue : X → ℕ) (digits : ℕ → List ℕ) (packed : X → List ℕ) (same : (x : X) → packed x ≡ digits (residue x)) where
  pub packed_is : (xs : List X) → flat_map packed xs ≡ flat_map digits (map residue xs)
  packed_is [] = refl
  packed_is (x ∷ xs) = rw (same x, packed_is xs)

  pub answered_is : (tests : List Test) (wanted : List ℤ) (out : List X) (r : Result (Unit {0}) RingFault) → Answers ring_fault tests (λ _. map residue out ≡ map (rest m) wanted) r
      → answered_text ring_fault (bytes_text (flat_map packed out)) r ≡ outcome_or (first_failing tests) (list_text m digits wanted)
  answered_is tests wanted out (Ok done) h = rw (h.0, packed_is out, h.1)
  answered_is tests wanted out (Err e) h = rw h

  -- the same of what a call gives, where its list is shown again and its lengths are those of the integers
  pub gives_list : (tests others : List Test) (wanted : List ℤ) (out shown : List X) (r : Result (Unit {0}) RingFault) (given : Result (Vec ℕ Global) Stop) → shown ≡ out → tests ≡ others
      → Answers ring_fault tests (λ _. map residue out ≡ map (rest m) wanted) r → Gives vec_items (Some (answered_text ring_fault (bytes_text (flat_map packed shown)) r)) given
      → Gives vec_items (Some (outcome_or (first_failing others) (list_text m digits wanted))) given
  gives_list tests others wanted out shown r given same e h k =
      gives_same vec_items (Some (outcome_or (first_failing others) (list_text m digits wanted))) (Some (answered_text ring_fault (bytes_text (flat_map packed shown)) r)) given
      (ap Some (sym (ap (λ xs. answered_text ring_fault (bytes_text (flat_map packed xs)) r) same ∙ answered_is tests wanted out r h ∙ ap (λ ts. outcome_or (first_failing ts) (list_text m digits wanted)) e))) k
