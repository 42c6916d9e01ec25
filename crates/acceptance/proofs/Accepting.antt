-- A signature is accepted exactly when some sample makes the signer issue it, and exactly two do.
use Rattle.std.proofs.Common.{◌≡◌, ℕ, ◌+◌, ◌*◌, ◌<◌, ◌≤◌, Bool, true, false, not, ◌⊎◌, List, length, ℤ, pos, nat_abs, sym, refl, ap, ◌∙◌, subst, inl, inr, mul-le-mul, arith}
use Rattle.std.specs.List.{AllByRecursion}
use Rattle.std.proofs.ByRecursion.{All-weaker}
use Rattle.std.proofs.lemmas.Bool.{cases_lt, leb-true, le-leb}
use Rattle.ring.specs.Classes.{size_of, bound_of, hash_length_of}
use Rattle.ring.specs.Elements.{negative}
use Rattle.ring.specs.declared.class.Class.{Class}
use Rattle.scheme.specs.Hashes.{hash_pair}
use Rattle.scheme.specs.Keys.{Basis, IsKey, form_of, Within}
use Rattle.scheme.specs.Matrices.{Pair, PairOf, applied, basis_of}
use Rattle.scheme.specs.Pairs.{pair_from, numbers_of, opposite, half_less, is_zero, up_to, leader}
use Rattle.scheme.specs.Signing.{source_of, changes, oriented, signature_of, length_of}
use Rattle.scheme.specs.Verdicts.{Accepted, point_of}
use Rattle.algebra.specs.Isometries.{Congruent}
use Rattle.algebra.proofs.Modulo.{applied_alike}
use Rattle.acceptance.specs.Issuing.{Issues, sample_of, ExactlyTwo, AcceptedIsAlwaysIssued}
use Rattle.acceptance.proofs.Squares.{squares, squares_append, square_below}
use Rattle.acceptance.proofs.Points.{hash_size, pair_from_size, point_size, numbers_size, from_numbers, numbers_from, numbers_opposite, opposite_opposite, opposite_size, congruent_parities, congruent_opposite, half_less_twice, less_twice_congruent}
use Rattle.acceptance.proofs.Bases.{there_back, back_there, basis_size, source_opposite, basis_opposite, length_is, squared_is, squared_opposite}
use Rattle.acceptance.proofs.Limits.{size_some, bound_few}
use Rattle.acceptance.proofs.Leaders.{zero_negative, positive_some, not_own_negative, leader_opposite, oriented_cases, up_kept, up_changed, up_oriented, up_back}
use Rattle.acceptance.proofs.Verified.{Verified, verified_from}
use Rattle.acceptance.proofs.Issuing.{Sampled, sampled_from, sampled_passes, length_whole, point_is, issued_is_accepted}
use Rattle.acceptance.proofs.Signer.{issues_from, Signs, issues_parts}

-- a number whose square is at most 20,243 fits 16 bits
square_small : (k : ℕ) → k * k ≤ 20243 → k ≤ 32767
square_small k h = elim (cases_lt 32767 k) [
  | inl l ↦ let big : 32768 ≤ k = omega arith in absurd (omega (arith, mul-le-mul big big))
  | inr l ↦ l
]

module _ (class : Class) (b : Basis) (key : IsKey (size_of class) b) (hash : List ℕ) where
  abbrev n : ℕ
  n = size_of class

  abbrev h : Pair
  h = hash_pair (size_of class) hash

  some : 0 < size_of class
  some = size_some class

  -- ---- a sample as a pair
  issued_by : (log : List ℕ) (area : List ℤ) (y : Pair) → PairOf (size_of class) y
      → length hash ≡ hash_length_of class → hash_length_of class ≤ length log → length area ≡ 2 * size_of class
      → Sampled class b (hash_pair (size_of class) hash) y → (s : List ℤ) (N : ℕ) (c : Bool)
      → numbers_of (signature_of b (hash_pair (size_of class) hash) y) ≡ s → length_of y ≡ N → changes (source_of b y) ≡ c
      → Issues class b log hash area (numbers_of y) s N c
  issued_by log area y p long room wide tests s N c es eN ec =
      let same : pair_from n (numbers_of y) ≡ y = from_numbers n y p in
      rw (← es, ← eN, ← ec)
      (subst (λ z. Issues class b log hash area (numbers_of y) (numbers_of (signature_of b h z)) (length_of z) (changes (source_of b z))) same
      (issues_from class b log hash area (numbers_of y) long room (numbers_size n y p) wide
      (rw same (sampled_passes class b h y tests))))

  -- ---- an accepted signature
  module _ (s : List ℤ) (N : ℕ) (acc : Accepted class (form_of b) hash s N) where
    abbrev v : Pair
    v = point_of (size_of class) hash s

    abbrev x : Pair
    x = applied (basis_of b) (point_of (size_of class) hash s)

    tests : Verified class (form_of b) hash s
    tests = verified_from class (form_of b) hash s acc.passes

    v_size : PairOf (size_of class) v
    v_size = point_size n hash s tests.long

    x_size : PairOf (size_of class) x
    x_size = basis_size n b some key v

    source_x : source_of b x ≡ v
    source_x = back_there n b some key v v_size

    source_minus : source_of b (opposite x) ≡ opposite v
    source_minus = source_opposite n b some key x x_size ∙ ap opposite source_x

    length_x : length_of x ≡ N
    unfolding length_of
    length_x = ap nat_abs (sym (length_is n b some key v v_size) ∙ acc.length_is)

    length_minus : length_of (opposite x) ≡ N
    unfolding length_of
    length_minus = ap nat_abs (squared_opposite x) ∙ length_x

    bound_N : N ≤ bound_of class
    bound_N = leb-true N (bound_of class) (ap (up_to (bound_of class)) (sym acc.length_is) ∙ tests.bound)

    coset : Congruent 2 x (applied (basis_of b) h)
    unfolding point_of
    coset = applied_alike 2 (omega arith) (basis_of b) v h (less_twice_congruent n h (pair_from n s) (hash_size n hash) (pair_from_size n s tests.long))

    sampled_x : Sampled class b h x
    sampled_x = record {
      coset = congruent_parities x (applied (basis_of b) h) coset;
      bound = rw length_x bound_N;
      some = rw source_x (positive_some (leader v.second) tests.positive);
    }

    sampled_minus : Sampled class b h (opposite x)
    sampled_minus = record {
      coset = congruent_parities (opposite x) (applied (basis_of b) h) (congruent_opposite x (applied (basis_of b) h) coset);
      bound = rw length_minus bound_N;
      some = rw source_minus
          (ap (λ z. not (is_zero z)) (leader_opposite v) ∙ ap not (zero_negative (leader v.second)) ∙ positive_some (leader v.second) tests.positive);
    }

    half_is : half_less h v ≡ pair_from (size_of class) s
    unfolding point_of
    half_is = half_less_twice n h (pair_from n s) (hash_size n hash) (pair_from_size n s tests.long)

    signature_from : (y : Pair) → oriented (source_of b y) ≡ v → numbers_of (signature_of b h y) ≡ s
    unfolding signature_of
    signature_from y e = ap numbers_of (ap (half_less h) e ∙ half_is) ∙ numbers_from n s

    sample_is : sample_of class b hash s ≡ numbers_of x
    unfolding sample_of
    sample_is = refl

    minus_is : negative (sample_of class b hash s) ≡ numbers_of (opposite x)
    minus_is = ap negative sample_is ∙ sym (numbers_opposite x)

    fits : AllByRecursion (Within 32767) (numbers_of x)
    unfolding numbers_of
    fits =
        let total : pos (squares x.first + squares x.second) ≡ pos N = sym (squared_is x) ∙ length_whole x ∙ ap pos length_x in
        let same : squares x.first + squares x.second ≡ N = ap nat_abs total in
        All-weaker (λ z. nat_abs z * nat_abs z ≤ 20243) (Within 32767) (λ z p. le-leb (nat_abs z) 32767 (square_small (nat_abs z) p)) _
        (square_below _ 20243 (omega (arith, squares_append x.first x.second, bound_N, bound_few class)))

    differs : numbers_of x ≡ numbers_of (opposite x) → ⊥
    differs e =
        let same : x ≡ opposite x = sym (from_numbers n x x_size) ∙ ap (pair_from n) e ∙ from_numbers n (opposite x) (opposite_size n x x_size) in
        let turned : v ≡ opposite v = sym source_x ∙ ap (source_of b) same ∙ source_minus in
        not_own_negative (leader v.second) tests.positive (ap (λ (w : Pair). leader w.second) turned ∙ leader_opposite v)

    only : (y : List ℤ) (M : ℕ) → Signs class b hash y s M → (y ≡ numbers_of x) ⊎ (y ≡ numbers_of (opposite x))
    only y M signs =
        let z : Pair = pair_from n y in
        let z-size : PairOf n z = pair_from_size n y signs.sample_long in
        let back : applied (basis_of b) (source_of b z) ≡ z = there_back n b some key z z-size in
        let at : v ≡ oriented (source_of b z) =
        ap (point_of n hash) signs.signature_is ∙ point_is class b key hash z z-size (sampled_from class b h z signs.passes) in
        elim (oriented_cases (source_of b z)) [
          | inl e ↦ inl (sym (numbers_from n y) ∙ ap numbers_of (sym back ∙ ap (applied (basis_of b)) (sym (at ∙ e))))
          | inr e ↦
              let minus : source_of b z ≡ opposite v = sym (opposite_opposite (source_of b z)) ∙ ap opposite (sym (at ∙ e)) in
              inr (sym (numbers_from n y) ∙ ap numbers_of (sym back ∙ ap (applied (basis_of b)) minus ∙ basis_opposite n b some key v v_size))
        ]

    pub exactly_two : (log : List ℕ) → hash_length_of class ≤ length log → (area : List ℤ) → length area ≡ 2 * size_of class → ExactlyTwo class b log hash area s N
    exactly_two log room area wide =
        let positive = tests.positive in
        record {
          kept = rw sample_is (issued_by log area x x_size tests.hash_long room wide sampled_x s N false
              (signature_from x (ap oriented source_x ∙ up_oriented v positive)) length_x (ap changes source_x ∙ up_kept v positive));
          changed = rw minus_is (issued_by log area (opposite x) (opposite_size n x x_size) tests.hash_long room wide sampled_minus s N true
              (signature_from (opposite x) (ap oriented source_minus ∙ up_back v positive)) length_minus (ap changes source_minus ∙ up_changed v positive));
          in_range = rw sample_is fits;
          apart = λ e. differs (sym sample_is ∙ e ∙ minus_is);
          no_other = λ y M c issues. elim (only y M (issues_parts class b log hash area y s M c issues)) [
            | inl e ↦ inl (e ∙ sym sample_is)
            | inr e ↦ inr (e ∙ sym minus_is)
          ];
        }

pub accepted_is_issued : AcceptedIsAlwaysIssued
accepted_is_issued class b key hash s = record {
  issued = λ N acc log room area wide. exactly_two class b key hash s N acc log room area wide;
  accepted = λ log area sample N c issues.
      let signs = issues_parts class b log hash area sample s N c issues in
      rw (signs.length_is, signs.signature_is)
      (issued_is_accepted class b key hash signs.hash_long (pair_from (size_of class) sample) (pair_from_size (size_of class) sample signs.sample_long) signs.passes);
}
