-- The texts of outcomes, as bytes. Assumes nothing.
use Rattle.std.specs.Prelude.{ℕ, cond, List, ◌++◌, Some, None, Ok, Err, codes, decimal, Option, Result, ◌==◌}
use Rattle.std.specs.List.{list_all}
use Rattle.ring.specs.declared.fault.Fault.{Fault}
use Rattle.answers.specs.Lines.{layer_name}
use Rattle.script.specs.Hexadecimal.{hex_text}

-- fault:NUMBER:LAYER:PLACE
abbrev pub faulted_text : Fault → List ℕ
faulted_text e = codes "fault:" ++ (decimal e.number ++ (codes ":" ++ (layer_name e.layer ++ (codes ":" ++ decimal e.place))))

abbrev pub number_text : ℕ → List ℕ
number_text n = codes "ok:" ++ decimal n

abbrev pub bytes_text : List ℕ → List ℕ
bytes_text bytes = codes "ok:" ++ hex_text bytes

-- the refusal, or the outcome of the work
abbrev pub outcome_or : Option Fault → List ℕ → List ℕ
outcome_or None text = text
outcome_or (Some e) text = faulted_text e

-- the text of a call that has done its work, or its refusal
abbrev pub answered_text : {E : Type 0} → (E → Fault) → List ℕ → Result (Unit {0}) E → List ℕ
answered_text meaning text (Ok done) = text
answered_text meaning text (Err e) = faulted_text (meaning e)

-- what a writer did with an area of sevens; one that a refusal has touched shows
abbrev pub settled_text : {E : Type 0} → (E → Fault) → List ℕ → Result (Unit {0}) E → List ℕ
settled_text meaning area (Ok done) = bytes_text area
settled_text meaning area (Err e) = cond (list_all (λ b. b == 7) area) (faulted_text (meaning e)) (codes "area touched")
