-- A section in fixed memory, and its range test.
use Rattle.std.proofs.Common.{◌≡◌, ℕ, ◌+◌, ◌-◌, ◌*◌, ◌<◌, ◌≤◌, true, false, List, [], ◌∷◌, ◌++◌, map, length, take, drop, replicate, ℤ, pos, Some, None, Option, Result, sym, refl, ap, ◌∙◌, mul-le-mul_right, add-mul, one-mul, arith}
use Rattle.std.specs.List.{prefix_len}
use Rattle.std.proofs.lemmas.Bool.{eq-eqb}
use Rattle.std.proofs.lemmas.List.{drop-replicate, map-id, take_at}
use Rattle.std.proofs.lemmas.Option.{MatchOption-at_some}
use Rattle.ring.specs.Classes.{size_of}
use Rattle.ring.specs.Faults.{first_failing, Answers}
use Rattle.ring.specs.declared.class.Class.{Class}
use Rattle.ring.proofs.Firsts.{answers_work, none_parts}
use Rattle.scheme.specs.Keys.{within, all_within}
use Rattle.slip.specs.Kinds.{sections_of, part_of}
use Rattle.slip.specs.Reads.{IsPart, IsSection}
use Rattle.slip.specs.Refusals.{slip_fault}
use Rattle.slip.specs.Slips.{body_place, section_place, section_there, size_in, size_named}
use Rattle.slip.specs.Writes.{same_tests}
use Rattle.slip.specs.declared.fault.SlipFault.{SlipFault}
use Rattle.slip.specs.declared.fault.SlipFault.TheVariants.{Range}
use Rattle.slip.specs.declared.reader.Part.{Part}
use Rattle.slip.specs.declared.reader.Slip.{Slip}
use Rattle.key.specs.Stored.{front, padded, room_of}
use Rattle.key.specs.Taking.{bytes_at, limit_test, place_at, InMemory}

-- a read into a list of the right length
pub was_read : {T X : Type 0} (have wanted : ℕ) (after from : List X) (r : Result T SlipFault) → have ≡ wanted → Answers slip_fault (same_tests have wanted) (λ _. after ≡ from) r → after ≡ from
was_read have wanted after from r same answer =
    let fits = eq-eqb have wanted same in
    let none : first_failing (same_tests have wanted) ≡ None = rw fits in
    (answers_work slip_fault (same_tests have wanted) (λ _. after ≡ from) r none answer).2

-- numbers over the front of blank memory
pub stored_is : {X : Type 0} (IsZero : X → Type 0) (zero : X) (n : ℕ) (blank back numbers from : List X) → IsZero zero → blank ≡ replicate room_of zero → back ≡ drop n blank → numbers ≡ from → length numbers ≡ n
    → InMemory IsZero n from (numbers ++ back)
stored_is IsZero zero n blank back numbers from z e rest is long = record {
  long = ap length (sym is) ∙ long;
  zero = zero;
  is_zero = z;
  memory_is =
      ap (λ b. numbers ++ b) (rest ∙ ap (drop n) e ∙ drop-replicate n room_of zero ∙ ap (λ k. replicate (room_of - k) zero) (sym long))
      ∙ ap (λ xs. xs ++ replicate (room_of - length xs) zero) is;
}

-- what an element of the class then reads
pub front_held : {X : Type 0} (IsZero : X → Type 0) (class : Class) (numbers memory : List X) → InMemory IsZero (size_of class) numbers memory → front class memory ≡ numbers
unfolding front
front_held IsZero class numbers memory held = ap (take (size_of class)) held.memory_is ∙ take_at numbers (replicate _ held.zero) (size_of class) held.long

pub held_at : {X : Type 0} (IsZero : X → Type 0) (n m : ℕ) (numbers other memory : List X) → n ≡ m → numbers ≡ other → InMemory IsZero n numbers memory → InMemory IsZero m other memory
held_at IsZero n m numbers other memory e f held = record {
  long = ap length (sym f) ∙ held.long ∙ e;
  zero = held.zero;
  is_zero = held.is_zero;
  memory_is = held.memory_is ∙ ap (λ xs. xs ++ replicate (room_of - length xs) held.zero) f;
}

-- a section of a slip
module _ (s : Slip) (i : ℕ) (h : i < sections_of s.kind) where
  pub part_end : place_at s i + part_of s.kind (size_of s.class) ≤ length s.file.now
  unfolding section_place body_place
  part_end =
      let fits = mul-le-mul_right {m = i + 1} {n = sections_of s.kind} (part_of s.kind (size_of s.class)) (omega arith) in
      omega (arith, s.room, fits, add-mul i 1 (part_of s.kind (size_of s.class)), one-mul (part_of s.kind (size_of s.class)))

pub part_is : (s : Slip) (i : ℕ) (o : Option Part) (p : Part) → IsSection s i o → o ≡ Some p → IsPart (bytes_at s i) (place_at s i) p
part_is s i o p there e =
    (MatchOption-at_some (section_there s.kind (size_of s.class) s.file.now i ≡ false) (λ q. (section_there s.kind (size_of s.class) s.file.now i ≡ true) × IsPart (bytes_at s i) (place_at s i) q) p e there).1

-- the range test of numbers that were found to be in range, or not
module _ (limit width place : ℕ) (numbers used : List ℤ) (same : used ≡ numbers) where
  pub limit_passes : all_within limit used ≡ true → first_failing (limit_test limit width place numbers ∷ []) ≡ None
  limit_passes small = let in_range = ap (all_within limit) (sym same) ∙ small in rw in_range

  pub limit_fails : (at k : ℕ) → at ≡ place → all_within limit used ≡ false → k ≡ prefix_len (within limit) used → first_failing (limit_test limit width place numbers ∷ []) ≡ Some (slip_fault (Range (at + width * k)))
  limit_fails at k e large is =
      let out = ap (all_within limit) (sym same) ∙ large in
      let first = is ∙ ap (prefix_len (within limit)) same in
      rw out (rw (e, first) refl)

-- a slip names its class
pub size_is : (s : Slip) → size_named s.file.now ≡ size_of s.class
unfolding size_named
size_is s = ap size_in s.named

-- n numbers within their limit, in memory
pub record Element (limit n : ℕ) (numbers memory : List ℤ) : Type 0 where
  pub long : length numbers ≡ n
  pub small : all_within limit numbers ≡ true
  pub memory_is : memory ≡ padded numbers

pub front_padded : (class : Class) (xs : List ℤ) → length xs ≡ size_of class → front class (padded xs) ≡ xs
unfolding front padded
front_padded class xs e = take_at xs (replicate _ (pos 0)) (size_of class) e

-- numbers whose zeros are 0
pub padded_is : (n : ℕ) (numbers memory : List ℤ) → InMemory (λ x. x ≡ pos 0) n numbers memory → memory ≡ padded numbers
unfolding padded
padded_is n numbers memory held = held.memory_is ∙ ap (λ z. numbers ++ replicate (room_of - length numbers) z) held.is_zero

module _ {limit n : ℕ} (numbers memory : List ℤ) where
  pub element_from : (width place : ℕ) (read : List ℤ) → read ≡ numbers → first_failing (limit_test limit width place (map (λ x. x) read) ∷ []) ≡ None → InMemory (λ x. x ≡ pos 0) n read memory → Element limit n numbers memory
  element_from width place read e none held = record {
    long = ap length (sym e) ∙ held.long;
    small = ap (all_within limit) (sym (map-id read ∙ e)) ∙ (none_parts (limit_test limit width place (map (λ x. x) read)) [] none).0;
    memory_is = padded_is n read memory held ∙ ap padded e;
  }

  pub front_element : (class : Class) → size_of class ≡ n → Element limit n numbers memory → front class memory ≡ numbers
  front_element class size held = ap (front class) held.memory_is ∙ front_padded class numbers (held.long ∙ sym size)
