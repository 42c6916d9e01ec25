-- What `all` and `position` find of numbers above a limit.
use Rattle.std.proofs.Common.{◌≡◌, ℕ, zero, suc, Bool, true, false, ◌&&◌, ◌<◌, ◌≤◌, List, [], ◌∷◌, map, length, get_or, ℤ, Some, None, Option, sym, refl, arith}
use Rattle.std.specs.Bool.{MatchBool}
use Rattle.std.specs.Option.{MatchOption}
use Rattle.std.specs.List.{AllWithin, HoldsAt, prefix_len}
use Rattle.scheme.specs.Keys.{within, all_within}

module _ {X : Type 0} (limit : ℕ) (value : X → ℤ) where
  abbrev Inside : X → Type 0
  Inside x = within limit (value x) ≡ true

  abbrev Beyond : X → Type 0
  Beyond x = within limit (value x) ≡ false

  none : (xs : List X) → ((k : ℕ) (d : X) → 0 ≤ k → k < length xs → Inside (get_or xs k d)) → all_within limit (map value xs) ≡ true
  none [] h = refl
  none (x ∷ xs) h = rw (h 0 x (omega arith) (omega arith)) (none xs (λ k d a b. h (suc k) d (omega arith) (omega arith)))

  and_false : (b : Bool) → (b && false) ≡ false
  and_false true = refl
  and_false false = refl

  some : (xs : List X) (k : ℕ) → k < length xs → ((d : X) → Beyond (get_or xs k d)) → all_within limit (map value xs) ≡ false
  some [] k b h = absurd (omega arith)
  some (x ∷ xs) zero b h = rw (h x) refl
  some (x ∷ xs) (suc k) b h = rw (some xs k (omega arith) h) (and_false (within limit (value x)))

  first : (xs : List X) (i : ℕ) → i < length xs → ((d : X) → Beyond (get_or xs i d)) → ((k : ℕ) (d : X) → 0 ≤ k → k < i → Inside (get_or xs k d))
      → i ≡ prefix_len (within limit) (map value xs)
  first [] i b h a = absurd (omega arith)
  first (x ∷ xs) zero b h a = rw (h x) refl
  first (x ∷ xs) (suc i) b h a =
      let rest = first xs i (omega arith) h (λ k d p q. a (suc k) d (omega arith) (omega arith)) in
      rw (a 0 x (omega arith) (omega arith)) (omega (arith, rest))

  pub all_decides : (xs : List X) (r : Bool) → MatchBool r (AllWithin Inside xs 0 (length xs)) ((k : ℕ) × (k < length xs) × HoldsAt Beyond xs k)
      → r ≡ all_within limit (map value xs)
  all_decides xs true h = sym (none xs h)
  all_decides xs false h = sym (some xs h.0 h.1 h.2)

  pub first_decides : (xs : List X) (r : Option ℕ)
      → MatchOption r (AllWithin Inside xs 0 (length xs)) (λ i. (i < length xs) × HoldsAt Beyond xs i × AllWithin Inside xs 0 i)
      → MatchOption r (all_within limit (map value xs) ≡ true) (λ i. (all_within limit (map value xs) ≡ false) × (i ≡ prefix_len (within limit) (map value xs)) × (i < length xs))
  first_decides xs None h = none xs h
  first_decides xs (Some i) h = (some xs i h.0 h.1, first xs i h.0 h.1 h.2, h.0)
