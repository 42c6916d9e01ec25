-- What a line of a script means. Assumes nothing.
use Rattle.std.specs.Prelude.{ℕ, Bool, true, cond, List, [], ◌∷◌, ℤ, Some, None, vec_items, codes, Option, ◌==◌}
use Prim.Native.String.{String}
use Rattle.std.specs.Str.{bytes_eq}
use Rattle.script.specs.Hexadecimal.{hex_bytes}
use Rattle.script.specs.Operands.{number_in, sample_in}
use Rattle.script.specs.declared.line.Line.{Line}
use Rattle.script.specs.declared.line.Line.TheVariants as line

-- The lines are key HEX, form, load HEX, verify HASH HEX, open LENGTH, announce HASH, target, sign HEX,
-- withdraw, count, log and close. Words are separated by one space.
pub data Meaning : Type 0 where
  -- empty, or a comment
  Skipped : Meaning
  Key : List ℕ → Meaning
  Form : Meaning
  Load : List ℕ → Meaning
  -- a hash, and the file of a signature
  Verify : List ℕ → List ℕ → Meaning
  -- the bytes of a log
  Open : ℕ → Meaning
  Announce : List ℕ → Meaning
  Target : Meaning
  -- the numbers of a sample
  Sign : List ℤ → Meaning
  Withdraw : Meaning
  Count : Meaning
  Log : Meaning
  Close : Meaning
  -- every other line
  Bad : Meaning

-- b in front of the first word
abbrev pub onto : ℕ → List (List ℕ) → List (List ℕ)
onto b [] = (b ∷ []) ∷ []
onto b (word ∷ rest) = (b ∷ word) ∷ rest

-- the words of a line: what stands before, between and after its spaces
unfoldable pub words : List ℕ → List (List ℕ)
words [] = [] ∷ []
words (b ∷ bytes) = cond (b == 32) ([] ∷ words bytes) (onto b (words bytes))

abbrev pub is : List ℕ → String → Bool
is word name = bytes_eq word (codes name)

-- an operand that cannot be read makes a bad line
abbrev pub given : {X : Type 0} → Option X → (X → Meaning) → Meaning
given None f = Bad
given (Some x) f = f x

-- a verb alone
abbrev pub alone : List ℕ → Meaning
alone verb =
    cond (is verb "form") Form
    (cond (is verb "target") Target
    (cond (is verb "withdraw") Withdraw
    (cond (is verb "count") Count
    (cond (is verb "log") Log
    (cond (is verb "close") Close Bad)))))

-- a verb and bytes
abbrev pub with_bytes : List ℕ → List ℕ → Meaning
with_bytes verb bytes =
    cond (is verb "key") (Key bytes)
    (cond (is verb "load") (Load bytes)
    (cond (is verb "announce") (Announce bytes)
    (cond (is verb "sign") (given (sample_in bytes) Sign) Bad)))

-- a verb and one operand
abbrev pub with_one : List ℕ → List ℕ → Meaning
with_one verb operand =
    cond (is verb "open") (given (number_in 16776960 operand) Open)
    (given (hex_bytes operand) (with_bytes verb))

-- a verb and two operands
abbrev pub with_two : List ℕ → List ℕ → List ℕ → Meaning
with_two verb first second =
    cond (is verb "verify") (given (hex_bytes first) (λ hash. given (hex_bytes second) (Verify hash))) Bad

-- a line of these words
abbrev pub of_words : List (List ℕ) → Meaning
of_words [] = Bad
of_words (verb ∷ []) = alone verb
of_words (verb ∷ operand ∷ []) = with_one verb operand
of_words (verb ∷ first ∷ second ∷ []) = with_two verb first second
of_words (verb ∷ first ∷ second ∷ third ∷ rest) = Bad

-- empty, or begins with `#`
abbrev pub passed_over : List ℕ → Bool
passed_over [] = true
passed_over (b ∷ bytes) = b == 35

unfoldable pub meaning : List ℕ → Meaning
meaning line = cond (passed_over line) Skipped (of_words (words line))

-- what a line that was read stands for
abbrev pub meaning_of : Line → Meaning
meaning_of line.Skipped = Skipped
meaning_of (line.Key bytes) = Key (vec_items bytes)
meaning_of line.Form = Form
meaning_of (line.Load bytes) = Load (vec_items bytes)
meaning_of (line.Verify hash bytes) = Verify (vec_items hash) (vec_items bytes)
meaning_of (line.Open length) = Open length
meaning_of (line.Announce hash) = Announce (vec_items hash)
meaning_of line.Target = Target
meaning_of (line.Sign sample) = Sign (vec_items sample)
meaning_of line.Withdraw = Withdraw
meaning_of line.Count = Count
meaning_of line.Log = Log
meaning_of line.Close = Close
meaning_of line.Bad = Bad
