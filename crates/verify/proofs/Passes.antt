-- What loops over numbers know at place i.
use Rattle.std.proofs.Common.{◌≡◌, ℕ, ◌+◌, ◌<◌, ◌≤◌, true, ◌&&◌, List, length, get_or, take, drop, set, ℤ, pos, sym, ap, ◌∙◌, arith}
use Rattle.std.specs.List.{prefix_len}
use Rattle.std.proofs.lemmas.List.{at_drop_more, at_drop_all, take_more, take_more_set, take_all}
use Rattle.std.proofs.lemmas.List.Sums.{prefix_len-drop_yes}
use Rattle.scheme.specs.Keys.{within, all_within}

-- so far all are within the limit
abbrev pub Passed : ℕ → List ℤ → ℕ → Type 0
Passed m xs i = (i + prefix_len (within m) (drop i xs) ≡ prefix_len (within m) xs) × (all_within m (drop i xs) ≡ all_within m xs)

pub passed_more : (m : ℕ) (xs : List ℤ) (i : ℕ) → i < length xs → within m (get_or xs i (pos 0)) ≡ true → Passed m xs i → Passed m xs (i + 1)
passed_more m xs i h e p =
    let more = prefix_len-drop_yes (within m) xs i (pos 0) h e in (
      omega (arith, p.0, more),
      sym (at_drop_more (all_within m) xs i (pos 0) h ∙ ap (λ t. t && all_within m (drop (i + 1) xs)) e) ∙ p.1,
    )

pub passed_all : (m : ℕ) (xs : List ℤ) (i : ℕ) → length xs ≤ i → Passed m xs i → all_within m xs ≡ true
passed_all m xs i h p = sym p.1 ∙ at_drop_all (all_within m) xs i h

-- a list that takes over another's numbers: one number more, and all
pub copied_more : (to from : List ℤ) (i : ℕ) (z : ℤ) → i < length to → i < length from → z ≡ get_or from i (pos 0) → take i to ≡ take i from → take (i + 1) (set to i z) ≡ take (i + 1) from
copied_more to from i z h k e inv = take_more_set to i z h ∙ rw (inv, e) (sym (take_more from i (pos 0) k))

pub copied_all : (to from : List ℤ) (i : ℕ) → length to ≤ i → length from ≤ i → take i to ≡ take i from → to ≡ from
copied_all to from i h k inv = sym (take_all i to h) ∙ inv ∙ take_all i from k
