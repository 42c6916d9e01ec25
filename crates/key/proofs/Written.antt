-- Slips that are written part by part.
use Rattle.std.proofs.Common.{◌≡◌, ℕ, ◌+◌, ◌-◌, ◌*◌, ◌<◌, ◌≤◌, true, leb, List, [], ◌∷◌, ◌++◌, length, get_or, IfOk, None, Result, sym, ap, ◌∙◌, arith, length-append}
use Rattle.std.specs.List.{flat_map, AllByRecursion}
use Rattle.std.proofs.lemmas.List.{append_assoc, append-nil}
use Rattle.std.proofs.lemmas.Result.{IfOk-at_ok}
use Rattle.std.proofs.lemmas.Bool.{le-leb, or_right}
use Rattle.ring.specs.Classes.{size_of}
use Rattle.ring.specs.Faults.{first_failing, Answers}
use Rattle.ring.specs.declared.class.Class.{Class}
use Rattle.ring.proofs.Firsts.{answers_work}
use Rattle.slip.specs.Refusals.{slip_fault}
use Rattle.slip.specs.declared.fault.SlipFault.{SlipFault}
use Rattle.slip.specs.Kinds.{sections_of, part_of, body_of, takes_report}
use Rattle.slip.specs.Slips.{size_named, section_bytes}
use Rattle.slip.specs.Trailers.{Passes}
use Rattle.slip.specs.Writes.{written, room_tests, trailer_of}
use Rattle.slip.specs.declared.kind.Kind.{Kind}
use Rattle.slip.proofs.Areas.{length_written, written_more, written_whole}
use Rattle.slip.proofs.Sections.{length_parts, section_of}
use Rattle.slip.proofs.Trailers.{length_trailer, trailer_passes}

-- a write for which there is room is done, and what it says of an answer holds
pub was_put : {T : Type 0} (needed : ℕ) (area : List ℕ) (W B : Type 0) (r : Result T SlipFault) → needed ≤ length area → Answers slip_fault (room_tests needed area) (λ _. W) r → IfOk r (λ _. B) → W × B
was_put needed area W B r h answer back =
    let fits = le-leb needed (length area) h in
    let none : first_failing (room_tests needed area) ≡ None = rw fits in
    let done = answers_work slip_fault (room_tests needed area) (λ _. W) r none answer in
    (done.2, IfOk-at_ok (λ _. B) done.1 back)

-- one more part, right behind what is written
pub next_written : (done part area before after : List ℕ) (place : ℕ) → place ≡ length done → before ≡ written 0 done area → after ≡ written place part before → after ≡ written 0 (done ++ part) area
next_written done part area before after place e was is =
    is ∙ ap (written place part) was ∙ written_more 0 place done part area (omega arith) (omega arith)

-- the trailer, behind a body that leaves room for no more
pub all_written : (body trailer area before after : List ℕ) → length trailer ≡ 8 → length body + 8 ≡ length area → before ≡ written 0 body area → after ≡ written (length before - 8) trailer before → after ≡ body ++ trailer
all_written body trailer area before after t long was is =
    let same : length before ≡ length area = ap length was ∙ length_written 0 body area (omega arith) in
    next_written body trailer area before after (length before - 8) (omega arith) was is
    ∙ written_whole body trailer area (omega arith)

-- three parts and four parts of one length, one behind the other
module _ (p : ℕ) (a b c area a1 a2 a3 : List ℕ) (la : length a ≡ p) (lb : length b ≡ p) (lc : length c ≡ p)
    (w1 : a1 ≡ written 0 a area) (w2 : a2 ≡ written p b a1) (w3 : a3 ≡ written (2 * p) c a2) where
  two_parts : length (a ++ b) ≡ 2 * p
  two_parts = length-append a b ∙ omega arith

  three_parts : length ((a ++ b) ++ c) ≡ 3 * p
  three_parts = length-append (a ++ b) c ∙ omega (arith, two_parts)

  three_put : a3 ≡ written 0 ((a ++ b) ++ c) area
  three_put = next_written (a ++ b) c area a2 a3 (2 * p) (sym two_parts) (next_written a b area a1 a2 p (sym la) w1 w2) w3

  pub three_written : (t a4 : List ℕ) → length t ≡ 8 → length area ≡ 3 * p + 8 → a4 ≡ written (length a3 - 8) t a3 → a4 ≡ flat_map (λ l. l) (a ∷ b ∷ c ∷ []) ++ t
  three_written t a4 lt long w4 = all_written ((a ++ b) ++ c) t area a3 a4 lt (omega (arith, three_parts)) three_put w4 ∙ simp (append_assoc, append-nil)

  pub four_written : (d t a4 a5 : List ℕ) → length d ≡ p → length t ≡ 8 → length area ≡ 4 * p + 8 → a4 ≡ written (3 * p) d a3 → a5 ≡ written (length a4 - 8) t a4 → a5 ≡ flat_map (λ l. l) (a ∷ b ∷ c ∷ d ∷ []) ++ t
  four_written d t a4 a5 ld lt long w4 w5 =
      let all : length (((a ++ b) ++ c) ++ d) ≡ 4 * p = length-append ((a ++ b) ++ c) d ∙ omega (arith, three_parts) in
      all_written (((a ++ b) ++ c) ++ d) t area a4 a5 lt (omega arith) (next_written ((a ++ b) ++ c) d area a3 a4 (3 * p) (sym three_parts) three_put w4) w5
      ∙ simp (append_assoc, append-nil)

-- a file that is a body of equal parts and a trailer
module _ (kind : Kind) (class : Class) (parts : List (List ℕ)) (file : List ℕ) (is : file ≡ flat_map (λ l. l) parts ++ trailer_of kind class)
    (all : AllByRecursion (λ l. length l ≡ part_of kind (size_of class)) parts) (count : length parts ≡ sections_of kind) where
  long : length file ≡ body_of kind class + 8
  long =
      ap length is
      ∙ length-append (flat_map (λ l. l) parts) (trailer_of kind class)
      ∙ ap (λ k. k + length (trailer_of kind class)) (length_parts (part_of kind (size_of class)) parts all ∙ ap (λ k. k * part_of kind (size_of class)) count)
      ∙ ap (λ k. body_of kind class + k) (length_trailer kind class)

  pub parts_pass : Passes kind class file
  parts_pass =
      let fits : leb (length file) (body_of kind class + 8) ≡ true = le-leb (length file) (body_of kind class + 8) (omega (arith, long)) in
      trailer_passes kind class (flat_map (λ l. l) parts) file is
      (record { room = omega (arith, long); alone = or_right (takes_report kind) (leb (length file) (body_of kind class + 8)) fits })

  pub part_read : (i : ℕ) → i < sections_of kind → section_bytes kind (size_named file) file i ≡ get_or parts i []
  part_read i h =
      ap (λ n. section_bytes kind n file i) parts_pass.size
      ∙ ap (λ f. section_bytes kind (size_of class) f i) is
      ∙ section_of kind (size_of class) [] (trailer_of kind class) parts i all count (length_trailer kind class) h
