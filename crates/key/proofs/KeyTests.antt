-- What the sections of a key slip and of a form slip are tested for.
use Rattle.std.proofs.Common.{◌≡◌, ℕ, List, [], ◌∷◌, map, ℤ, pos, None, refl, one-mul}
use Rattle.std.proofs.lemmas.List.{map-id}
use Rattle.ring.specs.Classes.{size_of}
use Rattle.ring.specs.Faults.{first_failing}
use Rattle.scheme.specs.Keys.{key_limit, form_limit}
use Rattle.slip.specs.Numbers.{numbers8, numbers32}
use Rattle.slip.specs.declared.kind.Kind.TheVariants.{Key, Form}
use Rattle.slip.specs.declared.reader.Slip.{Slip}
use Rattle.key.specs.FormLoading.{form_numbers_in, form_range_test}
use Rattle.key.specs.Loading.{numbers_in, range_test}
use Rattle.key.specs.Taking.{bytes_at, limit_test, place_at, InMemory}
use Rattle.key.proofs.Taking.{element_from, size_is, Element}

module _ (s : Slip) (kind : s.kind ≡ Key) (i : ℕ) where
  pub key_numbers : numbers8 (bytes_at s i) ≡ numbers_in s.file.now i
  unfolding numbers_in
  key_numbers = rw (kind, size_is s) refl

  pub key_test : first_failing (limit_test key_limit 1 (place_at s i) (map (λ x. x) (numbers8 (bytes_at s i))) ∷ []) ≡ first_failing (range_test s.file.now i ∷ [])
  key_test = rw (map-id (numbers8 (bytes_at s i)), key_numbers, kind, size_is s, one-mul) refl

  pub key_element : (memory : List ℤ) → (first_failing (limit_test key_limit 1 (place_at s i) (map (λ x. x) (numbers8 (bytes_at s i))) ∷ []) ≡ None) × InMemory (λ x. x ≡ pos 0) (size_of s.class) (numbers8 (bytes_at s i)) memory
      → Element key_limit (size_of s.class) (numbers_in s.file.now i) memory
  key_element memory t = element_from (numbers_in s.file.now i) memory 1 (place_at s i) (numbers8 (bytes_at s i)) key_numbers t.0 t.1

module _ (s : Slip) (kind : s.kind ≡ Form) (i : ℕ) where
  pub form_numbers : numbers32 (bytes_at s i) ≡ form_numbers_in s.file.now i
  unfolding form_numbers_in
  form_numbers = rw (kind, size_is s) refl

  pub form_test : first_failing (limit_test form_limit 4 (place_at s i) (map (λ x. x) (numbers32 (bytes_at s i))) ∷ []) ≡ first_failing (form_range_test s.file.now i ∷ [])
  form_test = rw (map-id (numbers32 (bytes_at s i)), form_numbers, kind, size_is s) refl

  pub form_element : (memory : List ℤ) → (first_failing (limit_test form_limit 4 (place_at s i) (map (λ x. x) (numbers32 (bytes_at s i))) ∷ []) ≡ None) × InMemory (λ x. x ≡ pos 0) (size_of s.class) (numbers32 (bytes_at s i)) memory
      → Element form_limit (size_of s.class) (form_numbers_in s.file.now i) memory
  form_element memory t = element_from (form_numbers_in s.file.now i) memory 4 (place_at s i) (numbers32 (bytes_at s i)) form_numbers t.0 t.1
