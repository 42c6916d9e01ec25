-- Lists of numbers as bytes: what the laws of a slip's numbers rest on.
use Rattle.std.specs.Prelude.{◌≡◌, ℕ, ◌+◌, ◌-◌, ◌*◌, ◌/◌, ◌<◌, ◌≤◌, List, [], ◌∷◌, ◌++◌, length, ℤ, pos}
use Rattle.std.specs.Int.{w8, w32}
use Rattle.std.proofs.Common.{get_or, sym, refl, ap, ◌∙◌, ⊎_elim, append_assoc, arith, length-append, to_z, of_z}
use Rattle.std.proofs.lemmas.Bool.{cases_lt}
use Rattle.std.proofs.lemmas.List.{map-append, get_or-append-add, get_or_append_left, get_or-append_right, length-map}
use Rattle.std.proofs.lemmas.List.FromFn.{fill_by_all, length-map-range_with_len, get_or-map-range_with_len}
use Rattle.slip.specs.Numbers.{split32, bytes8, bytes32, numbers8, number32, numbers32}
use Rattle.slip.specs.Slips.{at32}

pub length_bytes8 : (xs : List ℤ) → length (bytes8 xs) ≡ length xs
unfolding bytes8
length_bytes8 xs = length-map xs (of_z w8)

pub length_bytes32 : (xs : List ℤ) → length (bytes32 xs) ≡ 4 * length xs
unfolding bytes32 split32
length_bytes32 [] = refl
length_bytes32 (x ∷ xs) = let h = length_bytes32 xs in omega arith

pub bytes8_append : (xs ys : List ℤ) → bytes8 (xs ++ ys) ≡ bytes8 xs ++ bytes8 ys
unfolding bytes8
bytes8_append xs ys = map-append (of_z w8) xs ys

pub bytes32_append : (xs ys : List ℤ) → bytes32 (xs ++ ys) ≡ bytes32 xs ++ bytes32 ys
unfolding bytes32
bytes32_append [] ys = refl
bytes32_append (x ∷ xs) ys = rw (bytes32_append xs ys, append_assoc)

pub numbers8_append : (n : ℕ) (xs ys : List ℕ) → length xs ≡ 1 * n → numbers8 (xs ++ ys) ≡ numbers8 xs ++ numbers8 ys
unfolding numbers8
numbers8_append n xs ys e = map-append (to_z w8) xs ys

-- a byte of the second of two lists
pub behind : (front rest : List ℕ) (p k : ℕ) → p ≡ length front + k → get_or (front ++ rest) p 0 ≡ get_or rest k 0
behind front rest p k e = ap (λ q. get_or (front ++ rest) q 0) e ∙ get_or-append-add front rest k 0

pub at32_behind : (front rest : List ℕ) (p k : ℕ) → p ≡ length front + k → at32 (front ++ rest) p ≡ at32 rest k
unfolding at32
at32_behind front rest p k e =
    rw (behind front rest p k e, behind front rest (p + 1) (k + 1) (omega arith), behind front rest (p + 2) (k + 2) (omega arith), behind front rest (p + 3) (k + 3) (omega arith))

at32_within : (xs ys : List ℕ) (p : ℕ) → p + 4 ≤ length xs → at32 (xs ++ ys) p ≡ at32 xs p
unfolding at32
at32_within xs ys p h =
    rw (get_or_append_left xs ys 0 p (omega arith), get_or_append_left xs ys 0 (p + 1) (omega arith), get_or_append_left xs ys 0 (p + 2) (omega arith), get_or_append_left xs ys 0 (p + 3) (omega arith))

pub length_numbers32 : (bytes : List ℕ) → length (numbers32 bytes) ≡ length bytes / 4
unfolding numbers32
length_numbers32 bytes = length-map-range_with_len (number32 bytes) 0 (length bytes / 4)

get_or_numbers32 : (bytes : List ℕ) (k : ℕ) → k < length bytes / 4 → get_or (numbers32 bytes) k (pos 0) ≡ number32 bytes k
unfolding numbers32
get_or_numbers32 bytes k h = get_or-map-range_with_len (number32 bytes) 0 (length bytes / 4) k k (pos 0) h (omega arith)

pub numbers32_append : (n : ℕ) (xs ys : List ℕ) → length xs ≡ 4 * n → numbers32 (xs ++ ys) ≡ numbers32 xs ++ numbers32 ys
unfolding numbers32 number32
numbers32_append n xs ys e =
    let a = length_numbers32 xs in
    let b = length_numbers32 ys in
    let c = length-append xs ys in
    let d = length-append (numbers32 xs) (numbers32 ys) in
    sym (fill_by_all (number32 (xs ++ ys)) (numbers32 xs ++ numbers32 ys) (length (xs ++ ys) / 4) (pos 0) (omega arith)
    (λ k h. ⊎_elim
    (λ lt. get_or_append_left (numbers32 xs) (numbers32 ys) (pos 0) k (omega arith)
    ∙ get_or_numbers32 xs k (omega arith)
    ∙ sym (ap (to_z w32) (at32_within xs ys (4 * k) (omega arith))))
    (λ le. get_or-append_right (numbers32 xs) (numbers32 ys) n k (pos 0) (omega arith) le
    ∙ get_or_numbers32 ys (k - n) (omega arith)
    ∙ sym (ap (to_z w32) (at32_behind xs ys (4 * k) (4 * (k - n)) (omega arith))))
    (cases_lt k n)))
