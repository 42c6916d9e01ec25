-- The parts of a file that is a report, a body and a trailer.
use Rattle.std.proofs.Common.{◌≡◌, ℕ, zero, suc, ◌+◌, ◌*◌, ◌<◌, ◌≤◌, List, [], ◌∷◌, ◌++◌, length, get_or, take, drop, sym, refl, ap, ◌∙◌, mul-le-mul_right, suc-mul, add-mul, one-mul, zero-mul, arith, length-append, length-drop}
use Rattle.std.specs.List.{flat_map, AllByRecursion}
use Rattle.std.proofs.lemmas.List.{take_at, drop_at, drop-drop, take-append-le, drop-append-le}
use Rattle.slip.specs.declared.kind.Kind.{Kind}
use Rattle.slip.specs.Kinds.{sections_of, part_of, bytes_of}
use Rattle.slip.specs.Slips.{body_place, report_bytes, section_place, section_bytes}

pub length_parts : (p : ℕ) (parts : List (List ℕ)) → AllByRecursion (λ l. length l ≡ p) parts → length (flat_map (λ l. l) parts) ≡ length parts * p
length_parts p [] all = sym (zero-mul p)
length_parts p (x ∷ xs) all =
    let e = length_parts p xs all.1 in
    omega (arith, suc-mul (length xs) p, length-append x (flat_map (λ l. l) xs), all.0)

-- one of many parts of one length
chunk : (p : ℕ) (parts : List (List ℕ)) (i : ℕ) → AllByRecursion (λ l. length l ≡ p) parts → i < length parts
    → take p (drop (i * p) (flat_map (λ l. l) parts)) ≡ get_or parts i []
chunk p [] i all h = absurd (omega arith)
chunk p (x ∷ xs) zero all h =
    ap (λ k. take p (drop k (x ++ flat_map (λ l. l) xs))) (zero-mul p) ∙ take_at x (flat_map (λ l. l) xs) p all.0
chunk p (x ∷ xs) (suc k) all h =
    let e : suc k * p ≡ p + k * p = omega (arith, suc-mul k p) in
    ap (λ j. take p (drop j (x ++ flat_map (λ l. l) xs))) e
    ∙ ap (take p) (sym (drop-drop (k * p) p (x ++ flat_map (λ l. l) xs)))
    ∙ ap (λ l. take p (drop (k * p) l)) (drop_at x (flat_map (λ l. l) xs) p all.0)
    ∙ chunk p xs k all.1 (omega arith)

module _ (kind : Kind) (n : ℕ) (report body rest : List ℕ) (b : length body ≡ bytes_of kind n) (t : length rest ≡ 8) where
  pub file_length : length (report ++ (body ++ rest)) ≡ length report + (bytes_of kind n + 8)
  file_length = length-append report (body ++ rest) ∙ ap (λ k. length report + k) (length-append body rest ∙ ap (λ k. k + length rest) b ∙ ap (λ k. bytes_of kind n + k) t)

  pub place_is : body_place kind n (report ++ (body ++ rest)) ≡ length report
  unfolding body_place
  place_is = omega (arith, file_length)

  pub report_is : report_bytes kind n (report ++ (body ++ rest)) ≡ report
  unfolding report_bytes
  report_is = take_at report (body ++ rest) (body_place kind n (report ++ (body ++ rest))) (sym place_is)

  within : (i : ℕ) → i < sections_of kind → i * part_of kind n + part_of kind n ≤ length body
  within i h =
      let m = mul-le-mul_right {m = i + 1} {n = sections_of kind} (part_of kind n) (omega arith) in
      omega (arith, add-mul i 1 (part_of kind n), one-mul (part_of kind n))

  pub section_is : (i : ℕ) → i < sections_of kind
      → section_bytes kind n (report ++ (body ++ rest)) i ≡ take (part_of kind n) (drop (i * part_of kind n) body)
  unfolding section_bytes section_place
  section_is i h =
      let p = part_of kind n in
      let w = within i h in
      ap (λ k. take p (drop (k + i * p) (report ++ (body ++ rest)))) place_is
      ∙ ap (take p) (sym (drop-drop (i * p) (length report) (report ++ (body ++ rest))))
      ∙ ap (λ l. take p (drop (i * p) l)) (drop_at report (body ++ rest) (length report) refl)
      ∙ ap (take p) (drop-append-le (i * p) body rest (omega arith))
      ∙ take-append-le p (drop (i * p) body) rest (simp length-drop (omega arith))

-- the sections of a body that is made of them
pub section_of : (kind : Kind) (n : ℕ) (report rest : List ℕ) (parts : List (List ℕ)) (i : ℕ)
    → AllByRecursion (λ l. length l ≡ part_of kind n) parts → length parts ≡ sections_of kind → length rest ≡ 8 → i < sections_of kind
    → section_bytes kind n (report ++ (flat_map (λ l. l) parts ++ rest)) i ≡ get_or parts i []
section_of kind n report rest parts i all c t h =
    section_is kind n report (flat_map (λ l. l) parts) rest (length_parts (part_of kind n) parts all ∙ ap (λ k. k * part_of kind n) c) t i h
    ∙ chunk (part_of kind n) parts i all (omega arith)
