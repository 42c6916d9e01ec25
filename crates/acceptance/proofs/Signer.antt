-- The signer's two calls: when both go through, and what they answer.
use Rattle.std.proofs.Common.{◌≡◌, ℕ, ◌*◌, ◌≤◌, Bool, true, not, ◌&&◌, eqb, ltb, List, [], ◌∷◌, length, ℤ, is_some, Some, None, Option, sym, refl, ap, ◌∙◌, arith}
use Rattle.std.proofs.lemmas.Bool.{and_parts, eq-eqb, eqb-true, lt-ltb}
use Rattle.ring.specs.Classes.{size_of, hash_length_of}
use Rattle.ring.specs.Faults.{test, first_failing}
use Rattle.ring.specs.declared.class.Class.{Class}
use Rattle.ring.specs.declared.class.Class.TheVariants.{One, Two, Three, Four}
use Rattle.ring.specs.declared.fault.Fault.{Fault}
use Rattle.ring.proofs.Firsts.{none_parts}
use Rattle.scheme.specs.Hashes.{hash_pair}
use Rattle.scheme.specs.Keys.{Basis}
use Rattle.scheme.specs.Matrices.{Pair}
use Rattle.scheme.specs.Pairs.{pair_from, numbers_of}
use Rattle.scheme.specs.Refusals.{session_fault}
use Rattle.scheme.specs.Sessions.{State, opened, capacity_of, Call, announce, sign, refused, ordered, signed, Step}
use Rattle.scheme.specs.Signing.{source_of, changes, signature_of, length_of}
use Rattle.scheme.specs.Steps.{standing_pair, listed, order_test, announce_tests, sample_tests, sign_tests, tests_of, with_order, work, refusal, decided, step, run}
use Rattle.scheme.specs.declared.fault.SessionFault.TheVariants.{Length, Standing, Full, Logged}
use Rattle.acceptance.specs.Issuing.{answers, signatures, signer, Issues}

-- ---- one step
step_done : (class : Class) (b : Basis) (state : State) (call : Call) → first_failing (tests_of class b state call) ≡ None → step class b state call ≡ work class b state call
unfolding step
step_done class b state call e = ap (λ o. decided o (work class b state call) (refusal state call)) e

step_refused : (class : Class) (b : Basis) (state : State) (call : Call) (f : Fault) → first_failing (tests_of class b state call) ≡ Some f
    → (step class b state call).answer ≡ refused f
unfolding step
step_refused class b state call f e = ap (λ o. (decided o (work class b state call) (refusal state call)).answer) e

-- a call that is answered and not refused went through
step_passed : (class : Class) (b : Basis) (state : State) (call : Call) → ((f : Fault) → (step class b state call).answer ≡ refused f → ⊥)
    → first_failing (tests_of class b state call) ≡ None
step_passed class b state call h = go (first_failing (tests_of class b state call)) refl
  where
    go : (o : Option Fault) → first_failing (tests_of class b state call) ≡ o → o ≡ None
    go None e = refl
    go (Some f) e = absurd (h f (step_refused class b state call f e))

-- ---- the first call
capacity_some : (class : Class) (k : ℕ) → hash_length_of class ≤ k → ltb 0 (capacity_of class k) ≡ true
capacity_some One k h = lt-ltb 0 _ (omega arith)
capacity_some Two k h = lt-ltb 0 _ (omega arith)
capacity_some Three k h = lt-ltb 0 _ (omega arith)
capacity_some Four k h = lt-ltb 0 _ (omega arith)

module _ (class : Class) (b : Basis) (log hash : List ℕ) where
  -- the state in which the hash is ordered
  abbrev ordering : State
  ordering = with_order (opened class log) (Some hash)

  announce_passes : length hash ≡ hash_length_of class → hash_length_of class ≤ length log → first_failing (announce_tests class (opened class log) hash) ≡ None
  unfolding announce_tests opened listed
  announce_passes e h =
      let long = eq-eqb (length hash) (hash_length_of class) e in
      let room = capacity_some class (length log) h in
      rw (long, room)

  announce_long : first_failing (announce_tests class (opened class log) hash) ≡ None → length hash ≡ hash_length_of class
  unfolding announce_tests
  announce_long none =
      let state : State = opened class log in
      let more =
      test (not (is_some state.standing)) (session_fault Standing) ∷ test (ltb (length state.entries) state.capacity) (session_fault Full)
      ∷ test (not (listed state.entries hash)) (session_fault Logged) ∷ [] in
      eqb-true (length hash) (hash_length_of class) (none_parts (test (eqb (length hash) (hash_length_of class)) (session_fault Length)) more none).0

  announce_work : ((work class b (opened class log) (announce hash)).after ≡ ordering) × ((work class b (opened class log) (announce hash)).answer ≡ ordered 1)
      × ((work class b (opened class log) (announce hash)).signature_area ≡ [])
  unfolding work opened
  announce_work = (refl, refl, refl)

  -- ---- the second call
  module _ (area sample : List ℤ) where
    abbrev x : Pair
    x = pair_from (size_of class) sample

    abbrev signing : Call
    signing = sign 1 sample area (4 * size_of class)

    sign_passes : length sample ≡ 2 * size_of class → length area ≡ 2 * size_of class → first_failing (sample_tests class b (hash_pair (size_of class) hash) x) ≡ None
        → first_failing (tests_of class b ordering signing) ≡ None
    unfolding sign_tests standing_pair opened
    sign_passes p q none =
        let one = eq-eqb (length sample) (2 * size_of class) p in
        let two = eq-eqb (length area) (2 * size_of class) q in
        let three = eq-eqb (4 * size_of class) (4 * size_of class) refl in
        rw (one, two, three) none

    sign_parts : first_failing (tests_of class b ordering signing) ≡ None
        → (length sample ≡ 2 * size_of class) × (first_failing (sample_tests class b (hash_pair (size_of class) hash) x) ≡ None)
    unfolding sign_tests standing_pair opened
    sign_parts none =
        let sampled : Bool = eqb (length sample) (2 * size_of class) in
        let wide : Bool = eqb (length area) (2 * size_of class) in
        let worded : Bool = eqb (4 * size_of class) (4 * size_of class) in
        let more = sample_tests class b (hash_pair (size_of class) hash) x in
        let p = none_parts (test (sampled && wide && worded) (session_fault Length)) (order_test ordering 1 ∷ more) none in
        let q = none_parts (order_test ordering 1) more p.1 in
        (eqb-true (length sample) (2 * size_of class) (and_parts sampled wide (and_parts (sampled && wide) worded p.0).0).0, q.1)

    sign_work : ((work class b ordering signing).answer ≡ signed (length_of x) (changes (source_of b x)))
        × ((work class b ordering signing).signature_area ≡ numbers_of (signature_of b (hash_pair (size_of class) hash) x))
    unfolding work standing_pair
    sign_work = (refl, refl)

    -- ---- both
    abbrev first : Step
    first = step class b (opened class log) (announce hash)

    answers_list : answers (signer class b log hash area sample) ≡ first.answer ∷ (step class b first.after signing).answer ∷ []
    unfolding signer run
    answers_list = refl

    signatures_list : signatures (signer class b log hash area sample) ≡ first.signature_area ∷ (step class b first.after signing).signature_area ∷ []
    unfolding signer run
    signatures_list = refl

    pub issues_from : length hash ≡ hash_length_of class → hash_length_of class ≤ length log → length sample ≡ 2 * size_of class → length area ≡ 2 * size_of class
        → first_failing (sample_tests class b (hash_pair (size_of class) hash) x) ≡ None
        → Issues class b log hash area sample (numbers_of (signature_of b (hash_pair (size_of class) hash) x)) (length_of x) (changes (source_of b x))
    issues_from long room p q none =
        let one : first ≡ work class b (opened class log) (announce hash) = step_done class b (opened class log) (announce hash) (announce_passes long room) in
        let after : first.after ≡ ordering = ap (λ (t : Step). t.after) one ∙ announce_work.0 in
        let two : step class b first.after signing ≡ work class b ordering signing =
        ap (λ (t : State). step class b t signing) after ∙ step_done class b ordering signing (sign_passes p q none) in
        let answer-one : first.answer ≡ ordered 1 = ap (λ (t : Step). t.answer) one ∙ announce_work.1 in
        let answer-two : (step class b first.after signing).answer ≡ signed (length_of x) (changes (source_of b x)) = ap (λ (t : Step). t.answer) two ∙ sign_work.0 in
        let area-one : first.signature_area ≡ [] = ap (λ (t : Step). t.signature_area) one ∙ announce_work.2 in
        let area-two : (step class b first.after signing).signature_area ≡ numbers_of (signature_of b (hash_pair (size_of class) hash) x) =
        ap (λ (t : Step). t.signature_area) two ∙ sign_work.1 in
        record {
          answers_are = answers_list ∙ rw (answer-one, answer-two);
          signatures_are = signatures_list ∙ rw (area-one, area-two);
        }

-- what is known where the signer issues s
pub record Signs (class : Class) (b : Basis) (hash : List ℕ) (sample s : List ℤ) (N : ℕ) : Type 0 where
  pub hash_long : length hash ≡ hash_length_of class
  pub sample_long : length sample ≡ 2 * size_of class
  pub passes : first_failing (sample_tests class b (hash_pair (size_of class) hash) (pair_from (size_of class) sample)) ≡ None
  pub length_is : N ≡ length_of (pair_from (size_of class) sample)
  pub signature_is : s ≡ numbers_of (signature_of b (hash_pair (size_of class) hash) (pair_from (size_of class) sample))

same_two : {X : Type 0} (a b c d : X) → a ∷ b ∷ [] ≡ c ∷ d ∷ [] → (a ≡ c) × (b ≡ d)
same_two a b c d e = ((cc), (cc))

never_ordered : (k : ℕ) (f : Fault) → ordered k ≡ refused f → ⊥
never_ordered k f e = let z : ◌≡◌ {A = ℕ} 0 1 = cc in omega arith

never_signed : (N : ℕ) (c : Bool) (f : Fault) → signed N c ≡ refused f → ⊥
never_signed N c f e = let z : ◌≡◌ {A = ℕ} 0 1 = cc in omega arith

same_length : (N M : ℕ) (c d : Bool) → signed N c ≡ signed M d → N ≡ M
same_length N M c d e = cc

pub issues_parts : (class : Class) (b : Basis) (log hash : List ℕ) (area sample s : List ℤ) (N : ℕ) (c : Bool)
    → Issues class b log hash area sample s N c → Signs class b hash sample s N
issues_parts class b log hash area sample s N c issues =
    let start = opened class log in
    let state : State = ordering class b log hash in
    let call = signing class b log hash area sample in
    let one = step class b start (announce hash) in
    let given = same_two _ _ _ _ (sym (answers_list class b log hash area sample) ∙ issues.answers_are) in
    let shown = same_two _ _ _ _ (sym (signatures_list class b log hash area sample) ∙ issues.signatures_are) in
    let none : first_failing (announce_tests class start hash) ≡ None = step_passed class b start (announce hash) (λ f e. never_ordered 1 f (sym given.0 ∙ e)) in
    let after : one.after ≡ state = ap (λ (t : Step). t.after) (step_done class b start (announce hash) none) ∙ (announce_work class b log hash).0 in
    let answer : (step class b state call).answer ≡ signed N c = ap (λ (t : State). (step class b t call).answer) (sym after) ∙ given.1 in
    let signature : (step class b state call).signature_area ≡ s = ap (λ (t : State). (step class b t call).signature_area) (sym after) ∙ shown.1 in
    let passed : first_failing (tests_of class b state call) ≡ None = step_passed class b state call (λ f e. never_signed N c f (sym answer ∙ e)) in
    let done = step_done class b state call passed in
    let parts = sign_parts class b log hash area sample passed in
    let does = sign_work class b log hash area sample in
    record {
      hash_long = announce_long class b log hash none;
      sample_long = parts.0;
      passes = parts.1;
      length_is = same_length _ _ _ _ (sym answer ∙ ap (λ (t : Step). t.answer) done ∙ does.0);
      signature_is = sym signature ∙ ap (λ (t : Step). t.signature_area) done ∙ does.1;
    }
