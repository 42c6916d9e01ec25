-- Pairs doubled, halved, negated, modulo 2 and as lists of 2n numbers.
use Rattle.std.proofs.Common.{◌≡◌, ℕ, ◌*◌, ◌/◌, ◌%◌, ◌^◌, ◌≤◌, List, ◌++◌, map, length, get_or, take, drop, ℤ, sym, ap, ◌∙◌, arith}
use Rattle.std.specs.List.{range_with_len}
use Rattle.std.proofs.lemmas.List.{map-append, take_at, drop_at, take-append-drop, length-take-le, length-drop, length-append, length-map}
use Rattle.std.proofs.lemmas.List.FromFn.{length-map-range_with_len, length-range_with_len}
use Rattle.std.proofs.ByRecursion.{All-append}
use Rattle.ring.specs.Elements.{negative, difference}
use Rattle.ring.specs.Kinds.{rest}
use Rattle.ring.proofs.Sizes.{Bounded}
use Rattle.ring.proofs.Places.{length_negative, length_difference}
use Rattle.scheme.specs.Hashes.{hash_bit, hash_pair}
use Rattle.scheme.specs.Matrices.{Pair, PairOf}
use Rattle.scheme.specs.Pairs.{pair, pair_from, numbers_of, opposite, twice, half, less_twice, half_less, parities}
use Rattle.scheme.specs.Verdicts.{point_of}
use Rattle.algebra.specs.Isometries.{Congruent}
use Rattle.algebra.proofs.Lists.{negative_negative, negative_append}
use Rattle.acceptance.proofs.Halves.{list_less_half, list_half_less, list_rest_less, list_rest_negative, list_half_small}

-- ---- sizes
pub same_pair : (v w : Pair) → v.first ≡ w.first → v.second ≡ w.second → v ≡ w
same_pair v w p q = ap (λ t. pair t v.second) p ∙ ap (λ t. pair w.first t) q

pub opposite_size : (n : ℕ) (v : Pair) → PairOf n v → PairOf n (opposite v)
unfolding opposite
opposite_size n v p = record { first_size = length_negative v.first ∙ p.first_size; second_size = length_negative v.second ∙ p.second_size }

pub pair_from_size : (n : ℕ) (s : List ℤ) → length s ≡ 2 * n → PairOf n (pair_from n s)
unfolding pair_from
pair_from_size n s e = record { first_size = length-take-le n s (omega arith); second_size = length-drop n s ∙ omega arith }

pub hash_size : (n : ℕ) (hash : List ℕ) → PairOf n (hash_pair n hash)
unfolding hash_pair
hash_size n hash = record { first_size = length-map-range_with_len (hash_bit hash) 0 n; second_size = length-map-range_with_len (hash_bit hash) n n }

pub half_size : (n : ℕ) (h v : Pair) → PairOf n h → PairOf n v → PairOf n (half_less h v)
unfolding half_less
half_size n h v p q = record {
  first_size = length-map (difference h.first v.first) half ∙ length_difference h.first v.first (p.first_size ∙ sym q.first_size) ∙ p.first_size;
  second_size = length-map (difference h.second v.second) half ∙ length_difference h.second v.second (p.second_size ∙ sym q.second_size) ∙ p.second_size;
}

pub less_size : (n : ℕ) (h s : Pair) → PairOf n h → PairOf n s → PairOf n (less_twice h s)
unfolding less_twice
less_size n h s p q = record {
  first_size = length_difference h.first (map twice s.first) (p.first_size ∙ sym (length-map s.first twice ∙ q.first_size)) ∙ p.first_size;
  second_size = length_difference h.second (map twice s.second) (p.second_size ∙ sym (length-map s.second twice ∙ q.second_size)) ∙ p.second_size;
}

pub point_size : (n : ℕ) (hash : List ℕ) (s : List ℤ) → length s ≡ 2 * n → PairOf n (point_of n hash s)
unfolding point_of
point_size n hash s e = less_size n (hash_pair n hash) (pair_from n s) (hash_size n hash) (pair_from_size n s e)

pub numbers_size : (n : ℕ) (v : Pair) → PairOf n v → length (numbers_of v) ≡ 2 * n
unfolding numbers_of
numbers_size n v p = length-append v.first v.second ∙ omega (arith, p.first_size, p.second_size)

-- ---- a pair and its numbers
pub from_numbers : (n : ℕ) (v : Pair) → PairOf n v → pair_from n (numbers_of v) ≡ v
unfolding pair_from numbers_of
from_numbers n v p = same_pair _ v (take_at v.first v.second n p.first_size) (drop_at v.first v.second n p.first_size)

pub numbers_from : (n : ℕ) (s : List ℤ) → numbers_of (pair_from n s) ≡ s
unfolding pair_from numbers_of
numbers_from n s = take-append-drop n s

pub numbers_opposite : (v : Pair) → numbers_of (opposite v) ≡ negative (numbers_of v)
unfolding numbers_of opposite
numbers_opposite v = sym (negative_append v.first v.second)

pub opposite_opposite : (v : Pair) → opposite (opposite v) ≡ v
unfolding opposite
opposite_opposite v = same_pair _ v (negative_negative v.first) (negative_negative v.second)

-- ---- modulo 2
pub parities_append : (v : Pair) → parities v ≡ map (rest 2) v.first ++ map (rest 2) v.second
unfolding parities numbers_of
parities_append v = map-append (rest 2) v.first v.second

pub congruent_parities : (v w : Pair) → Congruent 2 v w → parities v ≡ parities w
congruent_parities v w c = rw (parities_append v, parities_append w, c.0, c.1)

pub parities_congruent : (n : ℕ) (v w : Pair) → PairOf n v → PairOf n w → parities v ≡ parities w → Congruent 2 v w
parities_congruent n v w p q e =
    let joined : map (rest 2) v.first ++ map (rest 2) v.second ≡ map (rest 2) w.first ++ map (rest 2) w.second = sym (parities_append v) ∙ e ∙ parities_append w in
    let long-v : length (map (rest 2) v.first) ≡ n = length-map v.first (rest 2) ∙ p.first_size in
    let long-w : length (map (rest 2) w.first) ≡ n = length-map w.first (rest 2) ∙ q.first_size in (
      sym (take_at _ (map (rest 2) v.second) n long-v) ∙ ap (take n) joined ∙ take_at _ (map (rest 2) w.second) n long-w,
      sym (drop_at (map (rest 2) v.first) _ n long-v) ∙ ap (drop n) joined ∙ drop_at (map (rest 2) w.first) _ n long-w,
    )

pub congruent_opposite : (v w : Pair) → Congruent 2 v w → Congruent 2 (opposite v) w
unfolding opposite
congruent_opposite v w c = (list_rest_negative v.first ∙ c.0, list_rest_negative v.second ∙ c.1)

-- ---- h − 2·((h − v)/2) = v where v and h are congruent, and (h − (h − 2·s))/2 = s
pub less_half_less : (h v : Pair) → Congruent 2 v h → less_twice h (half_less h v) ≡ v
unfolding less_twice half_less
less_half_less h v c = same_pair _ v (list_less_half h.first v.first (sym c.0)) (list_less_half h.second v.second (sym c.1))

pub half_less_twice : (n : ℕ) (h s : Pair) → PairOf n h → PairOf n s → half_less h (less_twice h s) ≡ s
unfolding less_twice half_less
half_less_twice n h s p q =
    same_pair _ s (list_half_less h.first s.first (p.first_size ∙ sym q.first_size)) (list_half_less h.second s.second (p.second_size ∙ sym q.second_size))

pub less_twice_congruent : (n : ℕ) (h s : Pair) → PairOf n h → PairOf n s → Congruent 2 (less_twice h s) h
unfolding less_twice
less_twice_congruent n h s p q =
    (list_rest_less h.first s.first (p.first_size ∙ sym q.first_size), list_rest_less h.second s.second (p.second_size ∙ sym q.second_size))

-- ---- where h − 2·s is small, so is s
pub half_bounded : (n : ℕ) (hash : List ℕ) (s : List ℤ) → length s ≡ 2 * n
    → Bounded 840016 (point_of n hash s).first → Bounded 840016 (point_of n hash s).second → Bounded 524287 s
unfolding point_of less_twice hash_pair hash_bit pair_from
half_bounded n hash s e p q =
    let bit : ℕ → ℕ = λ i. get_or hash (i / 8) 0 / 2 ^ (i % 8) % 2 in
    let one : (i : ℕ) → bit i ≤ 1 = λ i. omega arith in
    let front = list_half_small bit (range_with_len 0 n) (take n s) one (length-range_with_len 0 n ∙ sym (length-take-le n s (omega arith))) p in
    let rear = list_half_small bit (range_with_len n n) (drop n s) one (length-range_with_len n n ∙ sym (length-drop n s ∙ omega arith)) q in
    rw (sym (take-append-drop n s)) (All-append _ (take n s) (drop n s) front rear)
