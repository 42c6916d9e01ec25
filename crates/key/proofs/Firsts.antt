-- The first place that a search finds.
use Rattle.std.proofs.Common.{◌≡◌, ℕ, ◌<◌, ◌≤◌, true, false, not, List, length, get_or, ℤ, pos, Some, None, Option, MatchOption, sym, arith}
use Rattle.std.specs.List.{prefix_len}
use Rattle.std.proofs.lemmas.Bool.{not-true, not-false}
use Rattle.std.proofs.lemmas.List.Sums.{prefix_len_is}
use Rattle.scheme.specs.Pairs.{is_zero}

-- of the numbers 0 to n − 1
pub first_nonzero : (xs : List ℤ) (n : ℕ) (r : Option ℕ) → length xs ≡ n
    → MatchOption r ((k : ℕ) → 0 ≤ k → k < n → false ≡ not (is_zero (get_or xs k (pos 0))))
    (λ i. (0 ≤ i) × (i < n) × (true ≡ not (is_zero (get_or xs i (pos 0)))) × ((k : ℕ) → 0 ≤ k → k < i → false ≡ not (is_zero (get_or xs k (pos 0)))))
    → MatchOption r (prefix_len is_zero xs ≡ n) (λ k. (k ≡ prefix_len is_zero xs) × (k < n))
first_nonzero xs n None long h = prefix_len_is is_zero xs n (pos 0) (omega arith) (λ k l. not-false _ (sym (h k (omega arith) l))) (λ l. absurd (omega arith))
first_nonzero xs n (Some i) long h =
    (sym (prefix_len_is is_zero xs i (pos 0) (omega (arith, h.1)) (λ k l. not-false _ (sym (h.3 k (omega arith) l))) (λ _. not-true _ (sym h.2))), h.1)
