-- Outcomes of cases of the ring. Assumes nothing.
use Rattle.std.specs.Prelude.{ℕ, ◌^◌, Bool, cond, List, [], ◌∷◌, map, length, ℤ, pos, Some, None, codes, Option, slice_index_or}
use Rattle.std.specs.Int.{w64, to_be_bytes}
use Rattle.std.specs.Option.{option_map}
use Rattle.std.specs.List.{flat_map}
use Rattle.std.specs.Str.{bytes_eq}
use Prim.Native.String.{String}
use Rattle.ring.specs.Calls.{length_test1, length_test2, length_test3, range_test}
use Rattle.ring.specs.Elements.{product, sum, adjoint, turned}
use Rattle.ring.specs.Faults.{first_failing}
use Rattle.ring.specs.Kinds.{rest, values, word_value, bit_value}
use Rattle.cases.specs.Texts.{outcome_or, bytes_text}
use Rattle.cases.specs.Stops.{given}
use Rattle.cases.specs.Lines.{field_in, bytes_at, number_at}
use Rattle.cases.specs.Packed.{unpacked, signed_in, bit_in}

-- a word in eight bytes, and a bit in one
abbrev pub word_bytes : ℕ → List ℕ
word_bytes r = to_be_bytes w64 r

abbrev pub bit_bytes : ℕ → List ℕ
bit_bytes r = r ∷ []

-- What is the same of words and of bits: the modulus and the bytes of a residue. Elements are lists of integers.
module _ (m : ℕ) (bytes : ℕ → List ℕ) where
  -- the residues of a list
  abbrev pub list_text : List ℤ → List ℕ
  list_text a = bytes_text (flat_map bytes (map (rest m) a))

  abbrev pub product_text : List ℤ → List ℤ → List ℕ
  product_text a b = outcome_or (first_failing (length_test3 (length a) (length b) (length a) ∷ [])) (list_text (product a b))

  abbrev pub sum_text : List ℤ → List ℤ → List ℕ
  sum_text a b = outcome_or (first_failing (length_test3 (length a) (length b) (length a) ∷ [])) (list_text (sum a b))

  abbrev pub adjoint_text : List ℤ → List ℕ
  adjoint_text a = outcome_or (first_failing (length_test2 (length a) (length a) ∷ [])) (list_text (adjoint a))

  -- all of X^k · a
  abbrev pub turned_text : List ℤ → ℕ → List ℕ
  turned_text a k = outcome_or (first_failing (length_test1 (length a) ∷ range_test (length a) k ∷ [])) (list_text (turned k a))

  -- coefficient i of X^k · a
  abbrev pub coefficient_text : List ℤ → ℕ → ℕ → List ℕ
  coefficient_text a k i =
      outcome_or (first_failing (length_test1 (length a) ∷ range_test (length a) k ∷ range_test (length a) i ∷ []))
      (list_text (slice_index_or (turned k a) i (pos 0) ∷ []))

abbrev pub is : List ℕ → String → Bool
is text name = bytes_eq text (codes name)

-- the integers of an operand of words, and of bits
abbrev pub words_in : List ℕ → List ℤ
words_in bytes = values word_value (unpacked 8 (signed_in w64) bytes)

abbrev pub bits_in : List ℕ → List ℤ
bits_in bytes = values bit_value (unpacked 1 bit_in bytes)

-- the five verbs, for one kind of number
abbrev pub element_outcome : ℕ → (ℕ → List ℕ) → (List ℕ → List ℤ) → List ℕ → List ℕ → Option (List ℕ)
element_outcome m bytes list verb fields =
    given (option_map list (bytes_at (codes "a") fields)) (λ a.
    cond (is verb "product") (given (option_map list (bytes_at (codes "b") fields)) (λ b. Some (product_text m bytes a b)))
    (cond (is verb "sum") (given (option_map list (bytes_at (codes "b") fields)) (λ b. Some (sum_text m bytes a b)))
    (cond (is verb "adjoint") (Some (adjoint_text m bytes a))
    (cond (is verb "turned") (given (number_at (codes "k") fields) (λ k. Some (turned_text m bytes a k)))
    (cond (is verb "turned-at") (given (number_at (codes "k") fields) (λ k. given (number_at (codes "i") fields) (λ i. Some (coefficient_text m bytes a k i)))) None)))))

-- every kind but `word` stands for bits
abbrev pub ring_outcome : List ℕ → List ℕ → Option (List ℕ)
ring_outcome verb fields =
    given (field_in (codes "kind") fields) (λ kind. cond (is kind "word") (element_outcome (2 ^ 64) word_bytes words_in verb fields) (element_outcome 2 bit_bytes bits_in verb fields))
