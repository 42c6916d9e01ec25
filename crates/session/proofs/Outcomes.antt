-- The first failing test of each call, by what fails.
use Rattle.std.proofs.Common.{◌≡◌, ℕ, ◌<◌, ◌≤◌, true, false, List, [], ◌∷◌, length, ℤ, Some, None, refl, ap, ◌∙◌}
use Rattle.std.proofs.lemmas.Bool.{true≢false, le-ltb, lt-ltb}
use Rattle.ring.proofs.Firsts.{first_after, first_before}
use Rattle.ring.specs.Classes.{size_of}
use Rattle.ring.specs.Faults.{Test, first_failing}
use Rattle.ring.specs.declared.class.Class.{Class}
use Rattle.ring.specs.declared.fault.Fault.{Fault}
use Rattle.scheme.specs.Keys.{Basis}
use Rattle.scheme.specs.Pairs.{pair_from}
use Rattle.scheme.specs.Refusals.{session_fault}
use Rattle.scheme.specs.Sessions.{State, Call, announce, target, sign, withdraw, count}
use Rattle.scheme.specs.Steps.{step, work, decided, refusal, listed, standing_pair, order_test, tests_of, announce_tests, target_tests, sample_tests, sign_tests, withdraw_tests}
use Rattle.scheme.specs.declared.fault.SessionFault.TheVariants.{Length, Standing, Order, Full, Logged}
use Rattle.session.specs.Asks.{fitting}

module _ (class : Class) (b : Basis) (state : State) where
  pub refused_by : (call : Call) {f : Fault} → first_failing (tests_of class b state call) ≡ Some f → step class b state call ≡ refusal state call f
  unfolding step
  refused_by call e = ap (λ first. decided first (work class b state call) (refusal state call)) e

  pub done_by : (call : Call) → first_failing (tests_of class b state call) ≡ None → step class b state call ≡ work class b state call
  unfolding step
  done_by call e = ap (λ first. decided first (work class b state call) (refusal state call)) e

  pub unfit : (call : Call) → fitting class call ≡ false → first_failing (tests_of class b state call) ≡ Some (session_fault Length)
  unfolding announce_tests target_tests sign_tests
  unfit (announce hash) e = rw e
  unfit (target order area words) e = rw e
  unfit (sign order sample area words) e = rw e
  unfit (withdraw order) e = absurd (true≢false e)
  unfit count e = absurd (true≢false e)

  module _ (hash : List ℕ) (fits : fitting class (announce hash) ≡ true) where
    pub announce_standing : (kept : List ℕ) → state.standing ≡ Some kept → first_failing (tests_of class b state (announce hash)) ≡ Some (session_fault Standing)
    unfolding announce_tests
    announce_standing kept s = rw (fits, s)

    pub announce_full : state.standing ≡ None → state.capacity ≤ length state.entries → first_failing (tests_of class b state (announce hash)) ≡ Some (session_fault Full)
    unfolding announce_tests
    announce_full s h = rw (fits, s, le-ltb (length state.entries) state.capacity h)

    pub announce_logged : state.standing ≡ None → length state.entries < state.capacity → listed state.entries hash ≡ true
        → first_failing (tests_of class b state (announce hash)) ≡ Some (session_fault Logged)
    unfolding announce_tests
    announce_logged s h l = rw (fits, s, lt-ltb (length state.entries) state.capacity h, l)

    pub announce_passes : state.standing ≡ None → length state.entries < state.capacity → listed state.entries hash ≡ false
        → first_failing (tests_of class b state (announce hash)) ≡ None
    unfolding announce_tests
    announce_passes s h l = rw (fits, s, lt-ltb (length state.entries) state.capacity h, l)

  no_order : (order : ℕ) (rest : List Test) → state.standing ≡ None → first_failing (order_test state order ∷ rest) ≡ Some (session_fault Order)
  no_order order rest s = rw s

  -- once the lengths are right, these calls test their order
  module _ (order : ℕ) where
    pub target_tests_lem : (area : List ℕ) (words : ℕ) → fitting class (target order area words) ≡ true
        → first_failing (tests_of class b state (target order area words)) ≡ first_failing (order_test state order ∷ [])
    unfolding target_tests
    target_tests_lem area words fits = rw fits

    pub target_idle : (area : List ℕ) (words : ℕ) → fitting class (target order area words) ≡ true → state.standing ≡ None
        → first_failing (tests_of class b state (target order area words)) ≡ Some (session_fault Order)
    target_idle area words fits s = target_tests_lem area words fits ∙ no_order order [] s

    pub withdraw_tests_lem : first_failing (tests_of class b state (withdraw order)) ≡ first_failing (order_test state order ∷ [])
    unfolding withdraw_tests
    withdraw_tests_lem = refl

    pub withdraw_idle : state.standing ≡ None → first_failing (tests_of class b state (withdraw order)) ≡ Some (session_fault Order)
    withdraw_idle s = withdraw_tests_lem ∙ no_order order [] s

    module _ (sample area : List ℤ) (words : ℕ) (fits : fitting class (sign order sample area words) ≡ true) where
      sign_tests_lem : first_failing (tests_of class b state (sign order sample area words))
          ≡ first_failing (order_test state order ∷ sample_tests class b (standing_pair class state) (pair_from (size_of class) sample))
      unfolding sign_tests
      sign_tests_lem = rw fits

      pub sign_idle : state.standing ≡ None → first_failing (tests_of class b state (sign order sample area words)) ≡ Some (session_fault Order)
      sign_idle s = sign_tests_lem ∙ no_order order (sample_tests class b (standing_pair class state) (pair_from (size_of class) sample)) s

      pub sign_other : (f : Fault) → first_failing (order_test state order ∷ []) ≡ Some f → first_failing (tests_of class b state (sign order sample area words)) ≡ Some f
      sign_other f e = sign_tests_lem ∙ first_before (order_test state order ∷ []) (sample_tests class b (standing_pair class state) (pair_from (size_of class) sample)) f e

      pub sign_serves : first_failing (order_test state order ∷ []) ≡ None
          → first_failing (tests_of class b state (sign order sample area words)) ≡ first_failing (sample_tests class b (standing_pair class state) (pair_from (size_of class) sample))
      sign_serves e = sign_tests_lem ∙ first_after (order_test state order ∷ []) (sample_tests class b (standing_pair class state) (pair_from (size_of class) sample)) e
