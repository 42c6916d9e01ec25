-- A key's signature of a sample that passes its tests is accepted.
use Rattle.std.proofs.Common.{◌≡◌, ℕ, ◌*◌, ◌≤◌, true, not, leb, List, [], ◌∷◌, length, ℤ, pos, None, ap, ◌∙◌, inl, inr}
use Rattle.std.specs.Str.{bytes_eq}
use Rattle.std.proofs.lemmas.Slice.Eq.{bytes_eq-Decides}
use Rattle.std.proofs.lemmas.Bool.{leb-true, le-leb}
use Rattle.ring.specs.Classes.{size_of, bound_of}
use Rattle.ring.specs.Faults.{test, first_failing}
use Rattle.ring.specs.declared.class.Class.{Class}
use Rattle.ring.proofs.Firsts.{none_parts}
use Rattle.scheme.specs.Hashes.{hash_pair}
use Rattle.scheme.specs.Keys.{Basis, IsKey, form_of}
use Rattle.scheme.specs.Matrices.{Pair, PairOf, applied, basis_of, squared_length}
use Rattle.scheme.specs.Pairs.{numbers_of, parities, is_zero, is_positive, up_to, leader}
use Rattle.scheme.specs.Refusals.{session_fault}
use Rattle.scheme.specs.Signing.{target_of, source_of, oriented, signature_of, length_of}
use Rattle.scheme.specs.Steps.{sample_tests}
use Rattle.scheme.specs.Verdicts.{point_of, length_under}
use Rattle.scheme.specs.declared.fault.SessionFault.TheVariants.{Coset, Bound, Zero}
use Rattle.algebra.specs.Isometries.{Congruent}
use Rattle.algebra.proofs.Joins.{invertible_modulo_two}
use Rattle.acceptance.specs.Issuing.{IssuedIsAccepted}
use Rattle.acceptance.proofs.Points.{hash_size, half_size, numbers_size, from_numbers, parities_congruent, less_half_less}
use Rattle.acceptance.proofs.Bases.{there_back, source_size, basis_size, basis_opposite, length_is, squared_is, squared_opposite}
use Rattle.acceptance.proofs.Leaders.{oriented_cases, oriented_positive, oriented_size, oriented_congruent}
use Rattle.acceptance.proofs.Limits.{size_some, limits_never_refuse}
use Rattle.acceptance.proofs.Verified.{verified_passes}

-- ---- the three tests of a sample
pub record Sampled (class : Class) (b : Basis) (h x : Pair) : Type 0 where
  pub coset : parities x ≡ parities (applied (basis_of b) h)
  pub bound : length_of x ≤ bound_of class
  pub some : not (is_zero (leader (source_of b x).second)) ≡ true

pub sampled_from : (class : Class) (b : Basis) (h x : Pair) → first_failing (sample_tests class b h x) ≡ None → Sampled class b h x
unfolding sample_tests target_of
sampled_from class b h x none =
    let coset = test (bytes_eq (parities x) (parities (applied (basis_of b) h))) (session_fault Coset) in
    let bound = test (leb (length_of x) (bound_of class)) (session_fault Bound) in
    let zero = test (not (is_zero (leader (source_of b x).second))) (session_fault Zero) in
    let p = none_parts coset (bound ∷ zero ∷ []) none in
    let q = none_parts bound (zero ∷ []) p.1 in
    let r = none_parts zero [] q.1 in
    record {
      coset = (bytes_eq-Decides (parities x) (parities (applied (basis_of b) h))).0 p.0;
      bound = leb-true (length_of x) (bound_of class) q.0;
      some = r.0;
    }

pub sampled_passes : (class : Class) (b : Basis) (h x : Pair) → Sampled class b h x → first_failing (sample_tests class b h x) ≡ None
unfolding sample_tests target_of
sampled_passes class b h x s =
    let same = (bytes_eq-Decides (parities x) (parities (applied (basis_of b) h))).1 s.coset in
    let short = le-leb (length_of x) (bound_of class) s.bound in
    let some = s.some in
    rw (same, short, some)

-- ---- squared lengths
pub length_whole : (x : Pair) → squared_length x ≡ pos (length_of x)
unfolding length_of
length_whole x = rw (squared_is x)

-- ---- what the signature of a sample gives back
module _ (class : Class) (b : Basis) (key : IsKey (size_of class) b) (hash : List ℕ) (x : Pair) (p : PairOf (size_of class) x)
    (tests : Sampled class b (hash_pair (size_of class) hash) x) where
  source_congruent : Congruent 2 (source_of b x) (hash_pair (size_of class) hash)
  unfolding source_of
  source_congruent =
      (invertible_modulo_two (size_of class) b (size_some class) key).found (hash_pair (size_of class) hash) x (hash_size (size_of class) hash)
      (parities_congruent (size_of class) x (applied (basis_of b) (hash_pair (size_of class) hash)) p
      (basis_size (size_of class) b (size_some class) key (hash_pair (size_of class) hash)) tests.coset)

  pub signature_size : PairOf (size_of class) (signature_of b (hash_pair (size_of class) hash) x)
  unfolding signature_of
  signature_size =
      half_size (size_of class) (hash_pair (size_of class) hash) (oriented (source_of b x)) (hash_size (size_of class) hash)
      (oriented_size (size_of class) (source_of b x) (source_size (size_of class) b (size_some class) key x))

  -- h − 2·s is v, or −v
  pub point_is : point_of (size_of class) hash (numbers_of (signature_of b (hash_pair (size_of class) hash) x)) ≡ oriented (source_of b x)
  unfolding point_of
  point_is = rw (from_numbers (size_of class) (signature_of b (hash_pair (size_of class) hash) x) signature_size)
      (unfold signature_of in less_half_less (hash_pair (size_of class) hash) (oriented (source_of b x))
      (oriented_congruent (source_of b x) (hash_pair (size_of class) hash) source_congruent))

  -- ‖B·(h − 2·s)‖² is the sample's squared length
  point_length : squared_length (applied (basis_of b) (oriented (source_of b x))) ≡ pos (length_of x)
  point_length =
      let n = size_of class in
      let back = there_back n b (size_some class) key x p in
      elim (oriented_cases (source_of b x)) [
        | inl e ↦ ap (λ w. squared_length (applied (basis_of b) w)) e ∙ ap squared_length back ∙ length_whole x
        | inr e ↦
            ap (λ w. squared_length (applied (basis_of b) w)) e
            ∙ ap squared_length (basis_opposite n b (size_some class) key (source_of b x) (source_size n b (size_some class) key x))
            ∙ squared_opposite (applied (basis_of b) (source_of b x)) ∙ ap squared_length back ∙ length_whole x
      ]

pub issued_is_accepted : IssuedIsAccepted
issued_is_accepted class b key hash hash_long x p none =
    let n = size_of class in
    let tests : Sampled class b (hash_pair n hash) x = sampled_from class b (hash_pair n hash) x none in
    let s : List ℤ = numbers_of (signature_of b (hash_pair n hash) x) in
    let w : Pair = oriented (source_of b x) in
    let at : point_of n hash s ≡ w = point_is class b key hash x p tests in
    let long : length s ≡ 2 * n = numbers_size n _ (signature_size class b key hash x p tests) in
    let N : length_under (form_of b) (point_of n hash s) ≡ pos (length_of x) =
    ap (length_under (form_of b)) at
    ∙ length_is n b (size_some class) key w (oriented_size n (source_of b x) (source_size n b (size_some class) key x))
    ∙ point_length class b key hash x p tests in
    let bound : up_to (bound_of class) (length_under (form_of b) (point_of n hash s)) ≡ true =
    ap (up_to (bound_of class)) N ∙ le-leb (length_of x) (bound_of class) tests.bound in
    let limits = limits_never_refuse class b key hash s long bound in
    record {
      passes = verified_passes class (form_of b) hash s (record {
        hash_long = hash_long;
        long = long;
        small = limits.signature;
        image = limits.image;
        bound = bound;
        positive = ap (λ (v : Pair). is_positive (leader v.second)) at ∙ oriented_positive (source_of b x) tests.some;
      });
      length_is = N;
    }
