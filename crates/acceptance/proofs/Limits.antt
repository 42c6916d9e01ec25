-- The limits on s and u refuse nothing that the bound L lets through.
use Rattle.std.proofs.Common.{◌≡◌, ℕ, ◌+◌, ◌<◌, ◌≤◌, true, List, [], ◌∷◌, ℤ, pos, nat_abs, sym, refl, ap, ◌∙◌, subst, arith}
use Rattle.std.proofs.ByRecursion.{All-append, All-weaker}
use Rattle.std.proofs.lemmas.Bool.{leb-true, le-leb, and_from}
use Rattle.ring.specs.Classes.{size_of, bound_of}
use Rattle.ring.specs.declared.class.Class.{Class}
use Rattle.ring.specs.declared.class.Class.TheVariants.{One, Two, Three, Four}
use Rattle.ring.proofs.Sizes.{Bounded}
use Rattle.scheme.specs.Keys.{form_of, within, all_within}
use Rattle.scheme.specs.Matrices.{Pair, PairOf, applied, basis_of}
use Rattle.scheme.specs.Pairs.{numbers_of, up_to}
use Rattle.scheme.specs.Verdicts.{image_limit, point_of, length_under}
use Rattle.acceptance.specs.Limits.{LimitsNeverRefuse}
use Rattle.acceptance.proofs.Squares.{squares}
use Rattle.acceptance.proofs.Points.{point_size, half_bounded}
use Rattle.acceptance.proofs.Bases.{back_there, image_is, squared_is, length_is, source_bounded, star_bounded}

pub size_some : (class : Class) → 0 < size_of class
size_some One = omega arith
size_some Two = omega arith
size_some Three = omega arith
size_some Four = omega arith

pub size_few : (class : Class) → size_of class ≤ 1024
size_few One = omega arith
size_few Two = omega arith
size_few Three = omega arith
size_few Four = omega arith

pub bound_few : (class : Class) → bound_of class ≤ 20243
bound_few One = omega arith
bound_few Two = omega arith
bound_few Three = omega arith
bound_few Four = omega arith

bounded_all : (m : ℕ) (xs : List ℤ) → Bounded m xs → all_within m xs ≡ true
bounded_all m [] h = refl
bounded_all m (x ∷ xs) h = and_from (within m x) (all_within m xs) (le-leb (nat_abs x) m h.0) (bounded_all m xs h.1)

bounded_numbers : (v : Pair) → Bounded 840016 v.first × Bounded 840016 v.second → Bounded image_limit (numbers_of v)
unfolding numbers_of
bounded_numbers v h =
    All-weaker (λ z. nat_abs z ≤ 840016) (λ z. nat_abs z ≤ image_limit) (λ z p. omega arith) _
    (All-append _ v.first v.second h.0 h.1)

-- N ≤ L as a bound on the squares of x = B·v
pub short_from : (l : ℕ) (x : Pair) (z : ℤ) → z ≡ pos (squares x.first + squares x.second) → up_to l z ≡ true → squares x.first + squares x.second ≤ l
short_from l x z e h = leb-true _ l (ap (up_to l) (sym e) ∙ h)

pub limits_never_refuse : LimitsNeverRefuse
limits_never_refuse class b key hash s long bound =
    let n = size_of class in
    let v : Pair = point_of n hash s in
    let x : Pair = applied (basis_of b) v in
    let p : PairOf n v = point_size n hash s long in
    let some : 0 < n = size_some class in
    let N : length_under (form_of b) v ≡ pos (squares x.first + squares x.second) = length_is n b some key v p ∙ squared_is x in
    let short : squares x.first + squares x.second ≤ 20243 = omega (arith, short_from (bound_of class) x (length_under (form_of b) v) N bound, bound_few class) in
    let v-bounded : Bounded 840016 v.first × Bounded 840016 v.second =
    subst (λ (w : Pair). Bounded 840016 w.first × Bounded 840016 w.second) (back_there n b some key v p) (source_bounded n b some key (size_few class) x short) in
    record {
      signature = bounded_all _ s (half_bounded n hash s long v-bounded.0 v-bounded.1);
      image = rw (image_is n b some key v p) (bounded_all image_limit _ (bounded_numbers _ (star_bounded n b some key (size_few class) x short)));
    }
