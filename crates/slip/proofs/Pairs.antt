-- A signature's slip behind any report reads as the signature's numbers.
use Rattle.std.proofs.Common.{◌≡◌, ℕ, ◌+◌, ◌-◌, ◌*◌, ◌<◌, ◌≤◌, List, ◌++◌, length, take, drop, ℤ, Some, sym, refl, ap, ◌∙◌, append_assoc, one-mul, zero-mul, arith, lit<, length-drop}
use Rattle.std.proofs.lemmas.List.{take_all, take-append-drop, length-take-le}
use Rattle.std.proofs.lemmas.Bool.Decides.{nat_tests}
use Rattle.ring.specs.declared.class.Class.{Class}
use Rattle.ring.specs.declared.class.Class.TheVariants.{One, Two, Three, Four}
use Rattle.ring.specs.Classes.{size_of}
use Rattle.slip.specs.declared.kind.Kind.TheVariants.{Signature}
use Rattle.slip.specs.Kinds.{bytes_of, body_of}
use Rattle.slip.specs.Numbers.{bytes32, numbers32}
use Rattle.slip.specs.Signatures.{signature_class, signature_numbers, ReadsAs}
use Rattle.slip.specs.Slips.{report_bytes, section_bytes, size_named}
use Rattle.slip.specs.Trailers.{Holds, Passes}
use Rattle.slip.specs.Writes.{trailer_of, written}
use Rattle.slip.proofs.Areas.{length_written, written_more, written_whole}
use Rattle.slip.specs.Laws.{length_bytes32, numbers32_append}
use Rattle.slip.proofs.Sections.{file_length, report_is, section_is}
use Rattle.slip.proofs.Trailers.{length_trailer, trailer_passes}

pub pair_count : (count : ℕ) (class : Class) → signature_class count ≡ Some class → count ≡ 2 * size_of class
unfolding signature_class
pair_count count One e = grind (arith, nat_tests)
pair_count count Two e = grind (arith, nat_tests)
pair_count count Three e = grind (arith, nat_tests)
pair_count count Four e = grind (arith, nat_tests)

-- the numbers and then the trailer, over a whole area
pub slip_written : (numbers : List ℤ) (class : Class) (area mid after : List ℕ)
    → signature_class (length numbers) ≡ Some class → length area ≡ body_of Signature class + 8
    → mid ≡ written 0 (bytes32 numbers) area → after ≡ written (length mid - 8) (trailer_of Signature class) mid
    → after ≡ bytes32 numbers ++ trailer_of Signature class
slip_written numbers class area mid after e l m a =
    let count = pair_count (length numbers) class e in
    let body = length_bytes32 numbers in
    let t = length_trailer Signature class in
    let n : length mid ≡ length area = ap length m ∙ length_written 0 (bytes32 numbers) area (omega arith) in
    a
    ∙ ap (written (length mid - 8) (trailer_of Signature class)) m
    ∙ written_more 0 (length mid - 8) (bytes32 numbers) (trailer_of Signature class) area (omega arith) (omega arith)
    ∙ written_whole (bytes32 numbers) (trailer_of Signature class) area (omega arith)

-- the two halves of a body
halves : (bytes : List ℕ) (n : ℕ) → length bytes ≡ 2 * (4 * n)
    → numbers32 (take (4 * n) (drop (0 * (4 * n)) bytes)) ++ numbers32 (take (4 * n) (drop (1 * (4 * n)) bytes)) ≡ numbers32 bytes
halves bytes n e =
    let p = 4 * n in
    let d : length (drop p bytes) ≤ p = simp length-drop (omega arith) in
    let l : length (take p bytes) ≡ p = length-take-le p bytes (omega arith) in
    ap (λ k. numbers32 (take p (drop k bytes)) ++ numbers32 (take p (drop (1 * p) bytes))) (zero-mul p)
    ∙ ap (λ k. numbers32 (take p bytes) ++ numbers32 (take p (drop k bytes))) (one-mul p)
    ∙ ap (λ l. numbers32 (take p bytes) ++ numbers32 l) (take_all p (drop p bytes) d)
    ∙ sym (numbers32_append n (take p bytes) (drop p bytes) l)
    ∙ ap numbers32 (take-append-drop p bytes)

module _ (report : List ℕ) (numbers : List ℤ) (class : Class) (file : List ℕ)
    (e : signature_class (length numbers) ≡ Some class)
    (b : numbers32 (bytes32 numbers) ≡ numbers)
    (f : file ≡ report ++ (bytes32 numbers ++ trailer_of Signature class)) where
  count : length numbers ≡ 2 * size_of class
  count = pair_count (length numbers) class e

  body : length (bytes32 numbers) ≡ bytes_of Signature (size_of class)
  body = length_bytes32 numbers ∙ omega (arith, count)

  holds : Holds Signature class file
  holds =
      let l = ap length f ∙ file_length Signature (size_of class) report (bytes32 numbers) (trailer_of Signature class) body (length_trailer Signature class) in
      record { room = omega arith; alone = refl }

  passed : Passes Signature class file
  passed =
      trailer_passes Signature class (report ++ bytes32 numbers) file
      (f ∙ sym (append_assoc report (bytes32 numbers) (trailer_of Signature class))) holds

  section : (i : ℕ) → i < 2
      → section_bytes Signature (size_named file) file i ≡ take (4 * size_of class) (drop (i * (4 * size_of class)) (bytes32 numbers))
  section i h =
      ap (λ k. section_bytes Signature k file i) passed.size
      ∙ ap (λ l. section_bytes Signature (size_of class) l i) f
      ∙ section_is Signature (size_of class) report (bytes32 numbers) (trailer_of Signature class) body (length_trailer Signature class) i h

  pub reads_as : ReadsAs report numbers file
  unfolding signature_numbers
  reads_as = record {
    passes = passed.tests;
    named = passed.named ∙ sym e;
    size = ap (λ k. 2 * k) passed.size ∙ sym count;
    before =
        ap (λ k. report_bytes Signature k file) passed.size
        ∙ ap (report_bytes Signature (size_of class)) f
        ∙ report_is Signature (size_of class) report (bytes32 numbers) (trailer_of Signature class) body (length_trailer Signature class);
    held =
        ap (λ l. numbers32 l ++ numbers32 (section_bytes Signature (size_named file) file 1)) (section 0 (lit< tt))
        ∙ ap (λ l. numbers32 (take (4 * size_of class) (drop (0 * (4 * size_of class)) (bytes32 numbers))) ++ numbers32 l) (section 1 (lit< tt))
        ∙ halves (bytes32 numbers) (size_of class) body
        ∙ b;
  }
