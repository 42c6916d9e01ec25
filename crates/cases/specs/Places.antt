-- Outcomes of cases of keys and forms. Assumes nothing.
use Rattle.std.specs.Prelude.{◌≡◌, ℕ, ◌+◌, ◌-◌, ◌*◌, ◌/◌, cond, List, [], ◌∷◌, length, take, ℤ, Some, None, codes, Option, Result, MatchResult, is_some, unsigned_abs}
use Rattle.ring.specs.declared.class.Class.{Class}
use Rattle.ring.specs.Classes.{size_of}
use Rattle.ring.specs.Faults.{Test, first_failing}
use Rattle.scheme.specs.Keys.{Basis, Gram, form_of}
use Rattle.scheme.specs.Verdicts.{verify_tests, length_under, point_of}
use Rattle.slip.specs.Slips.{class_named, size_named}
use Rattle.slip.specs.Writes.{same_tests}
use Rattle.key.specs.Loading.{key_tests, scratch_test, basis_in}
use Rattle.key.specs.FormLoading.{form_tests, gram_in}
use Rattle.key.specs.Writing.{key_slip, form_slip}
use Rattle.answers.specs.Lines.{measure_line, file_limit}
use Rattle.cases.specs.Stops.{given, unreadable}
use Rattle.cases.specs.declared.stop.Stop.{Stop}
use Rattle.cases.specs.Lines.{bytes_at, number_at}
use Rattle.cases.specs.Slips.{code_in, signature_at}
use Rattle.cases.specs.Texts.{outcome_or, number_text, bytes_text}

-- The slips of the key and of the form that a file holds, and of that key's form.
abbrev pub key_slip_of : Option Class → Basis → List ℕ
key_slip_of None b = []
key_slip_of (Some class) b = key_slip class b

abbrev pub form_slip_of : Option Class → Gram → List ℕ
form_slip_of None q = []
form_slip_of (Some class) q = form_slip class q

abbrev pub key_slip_in : List ℕ → List ℕ
key_slip_in file = key_slip_of (class_named file) (basis_in file)

abbrev pub form_slip_in : List ℕ → List ℕ
form_slip_in file = form_slip_of (class_named file) (gram_in file)

abbrev pub made_slip_in : List ℕ → List ℕ
made_slip_in file = form_slip_of (class_named file) (form_of (basis_in file))

-- the scratch of a slip's load: 4n words, by the file's length
abbrev pub key_words : ℕ → ℕ
key_words length = length - 8

abbrev pub form_words : ℕ → ℕ
form_words length = (length - 8) / 3

-- the bytes of a slip, for elements of n numbers
abbrev pub key_needed : ℕ → ℕ
key_needed n = 4 * n + 8

abbrev pub form_needed : ℕ → ℕ
form_needed n = 12 * n + 8

-- a file that loads, with that scratch
abbrev pub sound_file : (List ℕ → ℕ → List Test) → (ℕ → ℕ) → List ℕ → Option (List ℕ)
sound_file tests words file = cond (is_some (first_failing (tests file (words (length file))))) None (Some file)

-- the file of a field, where it loads
abbrev pub sound_at : (List ℕ → ℕ → List Test) → (ℕ → ℕ) → List ℕ → List ℕ → Option (List ℕ)
sound_at tests words name fields = given (bytes_at name fields) (sound_file tests words)

abbrev pub key_at : List ℕ → List ℕ → Option (List ℕ)
key_at name fields = sound_at key_tests key_words name fields

abbrev pub form_at : List ℕ → List ℕ → Option (List ℕ)
form_at name fields = sound_at form_tests form_words name fields

-- what the file holds is there; no file, or one that does not load, is refused
abbrev pub Sound : {T : Type 0} → Option (List ℕ) → (List ℕ → T → Type 0) → Result T Stop → Type 0
Sound wanted Holds result = MatchResult result (λ x. (file : List ℕ) × (wanted ≡ Some file) × Holds file x) (λ e. e ≡ unreadable → wanted ≡ None)

-- ok:CLASS
abbrev pub load_text : List Test → List ℕ → List ℕ
load_text tests file = outcome_or (first_failing tests) (number_text (code_in (class_named file)))

-- a slip over an area of so many bytes, where it takes that many
abbrev pub slip_written_text : ℕ → ℕ → List ℕ → List ℕ
slip_written_text needed room slip = outcome_or (first_failing (same_tests room needed)) (bytes_text slip)

abbrev pub make_form_text : List ℕ → ℕ → List ℕ
make_form_text file words = outcome_or (first_failing (scratch_test (size_named file) words ∷ [])) (bytes_text (made_slip_in file))

-- ok:N
abbrev pub verify_text : Class → Gram → List ℕ → List ℤ → ℕ → List ℕ
verify_text class q hash s words =
    outcome_or (first_failing (verify_tests class q hash s words)) (number_text (unsigned_abs (length_under q (point_of (size_of class) hash s))))

abbrev pub verify_text_of : Option Class → Gram → List ℕ → List ℤ → ℕ → List ℕ
verify_text_of None q hash s words = []
verify_text_of (Some class) q hash s words = verify_text class q hash s words

-- a line without its newline
abbrev pub front_of : List ℕ → List ℕ
front_of line = take (length line - 1) line

-- the verbs
abbrev pub load_outcome : (List ℕ → ℕ → List Test) → List ℕ → Option (List ℕ)
load_outcome tests fields = given (bytes_at (codes "file") fields) (λ file. given (number_at (codes "scratch") fields) (λ words. Some (load_text (tests file words) file)))

-- a slip of what the file of a field holds
abbrev pub write_outcome : (List ℕ → ℕ → List Test) → (ℕ → ℕ) → (ℕ → ℕ) → (List ℕ → List ℕ) → List ℕ → List ℕ → Option (List ℕ)
write_outcome tests words needed slip_in name fields =
    given (sound_at tests words name fields) (λ file. given (number_at (codes "area") fields) (λ room. Some (slip_written_text (needed (size_named file)) room (slip_in file))))

abbrev pub write_key_outcome : List ℕ → Option (List ℕ)
write_key_outcome fields = write_outcome key_tests key_words key_needed key_slip_in (codes "key") fields

abbrev pub write_form_outcome : List ℕ → Option (List ℕ)
write_form_outcome fields = write_outcome form_tests form_words form_needed form_slip_in (codes "form") fields

abbrev pub make_form_outcome : List ℕ → Option (List ℕ)
make_form_outcome fields =
    given (key_at (codes "key") fields) (λ file. given (number_at (codes "scratch") fields) (λ words. Some (make_form_text file words)))

abbrev pub verify_outcome : List ℕ → Option (List ℕ)
verify_outcome fields =
    given (form_at (codes "form") fields) (λ file. given (bytes_at (codes "hash") fields) (λ hash. given (signature_at (codes "sig") fields) (λ s.
    given (number_at (codes "scratch") fields) (λ words. Some (verify_text_of (class_named file) (gram_in file) hash s words)))))

abbrev pub measure_outcome : List ℕ → Option (List ℕ)
measure_outcome fields = given (bytes_at (codes "in") fields) (λ input. Some (front_of (measure_line (take file_limit input))))
