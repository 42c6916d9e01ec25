-- The parts of a case. Assumes nothing.
use Rattle.std.specs.Prelude.{ℕ, Bool, cond, List, [], ◌∷◌, Some, None, codes, Option, ◌==◌}
use Rattle.std.specs.Option.{option_map, unwrap_or}
use Rattle.std.specs.List.{slice_split}
use Rattle.std.specs.Str.{bytes_eq}
use Rattle.cases.specs.Stops.{given}
use Rattle.cases.specs.Operands.{bytes_in, number_in}
use Rattle.cases.specs.declared.case.Case.{Case}

-- what stands behind a mark with which a text begins
abbrev pub behind : List ℕ → List ℕ → Option (List ℕ)
behind [] text = Some text
behind (c ∷ mark) [] = None
behind (c ∷ mark) (b ∷ text) = cond (b == c) (behind mark text) None

abbrev pub cut_here : ℕ → Option (List ℕ) → Option (List ℕ × List ℕ) → Option (List ℕ × List ℕ)
cut_here b (Some rest) later = Some ([], rest)
cut_here b None later = option_map (λ x. (b ∷ x.0, x.1)) later

-- what stands before the first place of a mark, and behind it
unfoldable pub cut : List ℕ → List ℕ → Option (List ℕ × List ℕ)
cut mark [] = None
cut mark (b ∷ text) = cut_here b (behind mark (b ∷ text)) (cut mark text)

pub record Parts : Type 0 where
  pub verb : List ℕ
  pub fields : List ℕ
  pub expect : List ℕ

abbrev pub parts : List ℕ → List ℕ → List ℕ → Parts
parts verb fields expect = record { verb = verb; fields = fields; expect = expect }

abbrev pub parts_of : Case → Parts
parts_of case = parts case.verb.now case.fields.now case.expect.now

-- a verb, a space and fields
abbrev pub opened : List ℕ → List ℕ → Option Parts
opened call expect = given (cut (codes " ") call) (λ x. Some (parts x.0 x.1 expect))

-- a verb, a space, fields and what is expected
abbrev pub case_with_fields : List ℕ → Option Parts
case_with_fields line = given (cut (codes " expect=") line) (λ x. opened x.0 x.1)

-- a verb, with or without fields
abbrev pub called : List ℕ → List ℕ → Parts
called call expect = unwrap_or (opened call expect) (parts call [] expect)

-- two spaces may stand before the verb
abbrev pub unindented : List ℕ → List ℕ
unindented line = unwrap_or (behind (codes "  ") line) line

abbrev pub case_in : List ℕ → Option Parts
case_in line = given (cut (codes " expect=") (unindented line)) (λ x. Some (called x.0 x.1))

-- the value of a field with this name
abbrev pub value_of : List ℕ → List ℕ → Option (List ℕ)
value_of name field = given (cut (codes "=") field) (λ x. cond (bytes_eq x.0 name) (Some x.1) None)

abbrev pub or_else : {X : Type 0} → Option X → Option X → Option X
or_else None later = later
or_else (Some x) later = Some x

-- the first that f gives
abbrev pub first_given : {X Y : Type 0} → (X → Option Y) → List X → Option Y
first_given f [] = None
first_given f (x ∷ xs) = or_else (f x) (first_given f xs)

abbrev pub is_space : ℕ → Bool
is_space b = b == 32

-- the value of the first field with this name
unfoldable pub field_in : List ℕ → List ℕ → Option (List ℕ)
field_in name fields = first_given (value_of name) (slice_split is_space fields)

-- an operand of bytes, and a number
abbrev pub bytes_at : List ℕ → List ℕ → Option (List ℕ)
bytes_at name fields = given (field_in name fields) bytes_in

abbrev pub number_at : List ℕ → List ℕ → Option ℕ
number_at name fields = given (field_in name fields) number_in
