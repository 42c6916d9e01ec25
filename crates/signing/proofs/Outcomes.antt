-- The first failing test of a sample.
use Rattle.std.proofs.Common.{◌≡◌, ℕ, ◌<◌, ◌≤◌, Bool, true, false, List, [], ◌∷◌, take, drop, ℤ, Some, None, Result, subst}
use Rattle.std.specs.Str.{bytes_eq}
use Rattle.std.proofs.lemmas.Bool.{le-leb, lt-leb, not_from_true, not_from_false}
use Rattle.ring.specs.Classes.{bound_of}
use Rattle.ring.specs.Faults.{first_failing, Answers}
use Rattle.ring.specs.declared.class.Class.{Class}
use Rattle.ring.proofs.Firsts.{first_passes, first_fails}
use Rattle.scheme.specs.Keys.{Basis}
use Rattle.scheme.specs.Matrices.{Pair}
use Rattle.scheme.specs.Pairs.{pair, pair_from, parities, is_zero, leader}
use Rattle.scheme.specs.Refusals.{session_fault}
use Rattle.scheme.specs.Signing.{target_of, source_of, length_of}
use Rattle.scheme.specs.Steps.{sample_tests}
use Rattle.scheme.specs.declared.fault.SessionFault.{SessionFault}
use Rattle.scheme.specs.declared.fault.SessionFault.TheVariants.{Coset, Bound, Zero}
use Rattle.signing.specs.Samples.{zero_test, Signed}

module _ (class : Class) (b : Basis) (h x : Pair) where
  pub coset_fails : bytes_eq (parities x) (target_of b h) ≡ false → first_failing (sample_tests class b h x) ≡ Some (session_fault Coset)
  unfolding sample_tests
  coset_fails e = rw e

  pub bound_fails : bytes_eq (parities x) (target_of b h) ≡ true → bound_of class < length_of x → first_failing (sample_tests class b h x) ≡ Some (session_fault Bound)
  unfolding sample_tests
  bound_fails e above = let long = lt-leb (length_of x) (bound_of class) above in rw (e, long)

  pub both_pass : bytes_eq (parities x) (target_of b h) ≡ true → length_of x ≤ bound_of class → first_failing (sample_tests class b h x) ≡ first_failing (zero_test b x ∷ [])
  unfolding sample_tests
  both_pass e below = let short = le-leb (length_of x) (bound_of class) below in rw (e, short)

-- v1 is 0, or not
pub zero_fails : (b : Basis) (x : Pair) → is_zero (leader (source_of b x).second) ≡ true → first_failing (zero_test b x ∷ []) ≡ Some (session_fault Zero)
zero_fails b x e = first_fails (zero_test b x) [] (not_from_true _ e)

pub zero_passes : (b : Basis) (x : Pair) → is_zero (leader (source_of b x).second) ≡ false → first_failing (zero_test b x ∷ []) ≡ None
zero_passes b x e = first_passes (zero_test b x) [] (not_from_false _ e)

pair_is : (n : ℕ) (sample x0 x1 : List ℤ) → x0 ≡ take n sample → x1 ≡ drop n sample → pair x0 x1 ≡ pair_from n sample
unfolding pair_from
pair_is n sample x0 x1 e0 e1 = rw (e0, e1)

-- a sample and its two elements
pub pair_answer : (b : Basis) (h : Pair) (n : ℕ) (sample x0 x1 area : List ℤ) (r : Result Bool SessionFault) → x0 ≡ take n sample → x1 ≡ drop n sample
    → Answers session_fault (zero_test b (pair x0 x1) ∷ []) (λ changed. Signed b h (pair x0 x1) changed area) r
    → Answers session_fault (zero_test b (pair_from n sample) ∷ []) (λ changed. Signed b h (pair_from n sample) changed area) r
pair_answer b h n sample x0 x1 area r e0 e1 answer =
    let same : pair x0 x1 ≡ pair_from n sample = pair_is n sample x0 x1 e0 e1 in
    subst (λ x. Answers session_fault (zero_test b x ∷ []) (λ changed. Signed b h x changed area) r) same answer
