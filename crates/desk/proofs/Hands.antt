-- What an answer of a session's step says of the state afterwards, and of an order in hand.
use Rattle.std.proofs.Common.{◌≡◌, ℕ, Bool, true, false, cond, not, ◌&&◌, eqb, List, [], ℤ, is_some, Some, None, Option, sym, refl, ap, ◌∙◌, subst, arith}
use Rattle.std.proofs.lemmas.Bool.{eq-eqb, true≢false}
use Rattle.ring.specs.Faults.{first_failing}
use Rattle.ring.specs.declared.class.Class.{Class}
use Rattle.ring.specs.declared.fault.Fault.{Fault}
use Rattle.scheme.specs.Keys.{Basis}
use Rattle.scheme.specs.Sessions.{State, Call, announce, target, sign, withdraw, count, Answer, refused, ordered}
use Rattle.scheme.specs.Steps.{number_in, with_order, announce_tests, withdraw_tests, tests_of, refusal, decided, work, step}
use Rattle.session.specs.Answers.{gives}
use Rattle.session.specs.declared.order.Order.{Order}
use Rattle.desk.specs.Hands.{matched, hand_answer, hand_state}

same_number : (m n : ℕ) → ordered m ≡ ordered n → m ≡ n
same_number m n h = cc

idle : (o : Option (List ℕ)) → not (is_some o) ≡ true → o ≡ None
idle None h = refl
idle (Some hash) h = let no : ◌≡◌ {A = ℕ} 0 1 = ap (λ t. cond t 1 0) h in absurd (omega arith)

-- where none of the tests fails, the second passes
second_passes : (p q : Bool) (e f : Fault) (rest : Option Fault) → cond p (cond q rest (Some f)) (Some e) ≡ None → q ≡ true
second_passes true true e f rest h = refl
second_passes true false e f rest h = absurd (cc)
second_passes false q e f rest h = absurd (cc)

module _ (class : Class) (b : Basis) (state : State) where
  never : (call : Call) (fault : Fault) → (work class b state call).answer ≡ refused fault → ⊥
  unfolding work
  never (announce hash) fault h = cc
  never (target order area words) fault h = cc
  never (sign order sample area words) fault h = cc
  never (withdraw order) fault h = cc
  never count fault h = cc

  refused_leaves : (call : Call) (fault : Fault) → (step class b state call).answer ≡ refused fault → (step class b state call).after ≡ state
  unfolding step
  refused_leaves call fault = by (first_failing (tests_of class b state call))
    where
      by : (o : Option Fault) → (decided o (work class b state call) (refusal state call)).answer ≡ refused fault → (decided o (work class b state call) (refusal state call)).after ≡ state
      by None h = absurd (never call fault h)
      by (Some e) h = refl

  -- a refusal leaves the state
  pub refused_keeps : (call : Call) (fault : Fault) (t : List ℕ) (s : List ℤ) (after : State) → gives (refused fault) t s after ≡ step class b state call → after ≡ state
  refused_keeps call fault t s after e = ap (λ r. r.after) e ∙ refused_leaves call fault (sym (ap (λ r. r.answer) e))

  -- a target leaves it
  pub target_keeps : (order : ℕ) (area : List ℕ) (words : ℕ) (answer : Answer) (t : List ℕ) (s : List ℤ) (after : State) → gives answer t s after ≡ step class b state (target order area words) → after ≡ state
  unfolding step work
  target_keeps order area words answer t s after e = ap (λ r. r.after) e ∙ by (first_failing (tests_of class b state (target order area words)))
    where
      by : (o : Option Fault) → (decided o (work class b state (target order area words)) (refusal state (target order area words))).after ≡ state
      by None = refl
      by (Some e) = refl

  -- where the state and the hand are kept, the order in hand stands as before
  pub kept_own : (hand last : Option Order) (after : State) → last ≡ hand → after ≡ state → matched hand state ≡ true → matched last after ≡ true
  kept_own hand last after back kept h = subst (λ o. matched o after ≡ true) (sym back) (subst (λ s. matched hand s ≡ true) (sym kept) h)

  passed : (hash : List ℕ) → first_failing (tests_of class b state (announce hash)) ≡ None → state.standing ≡ None
  unfolding announce_tests
  passed hash e = idle state.standing (second_passes _ _ _ _ _ e)

  -- with its own order in hand a session refuses a second one by itself
  pub own_announce : (hand : Option Order) (hash : List ℕ) (answer : Answer) (after : State) → matched hand state ≡ true
      → answer ≡ hand_answer hand (step class b state (announce hash)) → after ≡ hand_state hand state (step class b state (announce hash))
      → gives answer [] [] after ≡ step class b state (announce hash)
  unfolding step work
  own_announce hand hash answer after own is left = by hand (first_failing (tests_of class b state (announce hash))) refl own is left
    where
      by : (hand : Option Order) (o : Option Fault) → first_failing (tests_of class b state (announce hash)) ≡ o → matched hand state ≡ true
          → answer ≡ hand_answer hand (decided o (work class b state (announce hash)) (refusal state (announce hash))) → after ≡ hand_state hand state (decided o (work class b state (announce hash)) (refusal state (announce hash)))
          → gives answer [] [] after ≡ decided o (work class b state (announce hash)) (refusal state (announce hash))
      by None None e own is left = cc
      by None (Some f) e own is left = cc
      by (Some order) (Some f) e own is left = cc
      by (Some order) None e own is left =
          let no : false ≡ true = sym (ap (λ (o : Option (List ℕ)). is_some o && eqb order.number (number_in state)) (passed hash e)) ∙ own in
          absurd (true≢false (sym no))

  -- an order that was announced
  pub record Announced (hash : List ℕ) (number : ℕ) : Type 0 where
    pub number_is : number ≡ number_in state
    pub idle_before : state.standing ≡ None
    pub after_is : (step class b state (announce hash)).after ≡ with_order state (Some hash)

  announced_is : (hash : List ℕ) (number : ℕ) → ordered number ≡ (step class b state (announce hash)).answer → Announced hash number
  unfolding step work
  announced_is hash number = by (first_failing (tests_of class b state (announce hash))) refl
    where
      by : (o : Option Fault) → first_failing (tests_of class b state (announce hash)) ≡ o → ordered number ≡ (decided o (work class b state (announce hash)) (refusal state (announce hash))).answer → Announced hash number
      by None e h = record {
        number_is = same_number number (number_in state) h;
        idle_before = passed hash e;
        after_is = ap (λ o. (decided o (work class b state (announce hash)) (refusal state (announce hash))).after) e;
      }
      by (Some f) e h = absurd (cc)

  module _ (hash : List ℕ) (after : State) where
    -- an announcement that the session refuses leaves its state
    pub refused_state : (fault : Fault) (hand : Option Order) → gives (refused fault) [] [] after ≡ step class b state (announce hash) → after ≡ hand_state hand state (step class b state (announce hash))
    refused_state fault None e = ap (λ r. r.after) e
    refused_state fault (Some order) e = refused_keeps (announce hash) fault [] [] after e

    module _ (order : Order) (e : gives (ordered order.number) [] [] after ≡ step class b state (announce hash)) where
      was : Announced hash order.number
      was = announced_is hash order.number (ap (λ r. r.answer) e)

      -- a new order stands
      pub new_stands : matched (Some order) after ≡ true
      new_stands = subst (λ s. matched (Some order) s ≡ true) (sym (ap (λ r. r.after) e ∙ was.after_is)) (eq-eqb order.number (number_in state) was.number_is)

      -- and its withdrawal undoes the announcement
      pub undone_is : (last : State) → last ≡ with_order after None → last ≡ state
      undone_is last u = u ∙ ap (λ s. with_order s None) (ap (λ r. r.after) e ∙ was.after_is) ∙ sym (ap (λ o. with_order state o) was.idle_before)

      -- so that with a full hand nothing has changed
      pub undone_state : (hand : Option Order) (last : State) → true ≡ is_some hand → last ≡ with_order after None → last ≡ hand_state hand state (step class b state (announce hash))
      undone_state None last h u = absurd (cc)
      undone_state (Some held) last h u = undone_is last u

  module _ (number : ℕ) (own : (is_some state.standing && eqb number (number_in state)) ≡ true) where
    withdraw_taken : step class b state (withdraw number) ≡ work class b state (withdraw number)
    unfolding step withdraw_tests
    withdraw_taken = rw own

    pub withdraw_not_refused : (fault : Fault) (t : List ℕ) (s : List ℤ) (after : State) → gives (refused fault) t s after ≡ step class b state (withdraw number) → ⊥
    withdraw_not_refused fault t s after e = never (withdraw number) fault (sym (ap (λ r. r.answer) (e ∙ withdraw_taken)))

    pub withdrawn_state : (answer : Answer) (t : List ℕ) (s : List ℤ) (after : State) → gives answer t s after ≡ step class b state (withdraw number) → after ≡ with_order state None
    unfolding work
    withdrawn_state answer t s after e = ap (λ r. r.after) (e ∙ withdraw_taken)
