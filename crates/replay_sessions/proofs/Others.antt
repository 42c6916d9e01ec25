-- A session takes no order with another number: its state stays.
use Rattle.std.proofs.Common.{◌≡◌, ℕ, ◌+◌, Bool, true, false, cond, not, ◌&&◌, eqb, List, length, ℤ, is_some, Some, None, Option, sym, refl, ap, ◌∙◌}
use Rattle.std.proofs.lemmas.Bool.{not-true}
use Rattle.ring.specs.declared.class.Class.{Class}
use Rattle.ring.specs.declared.fault.Fault.{Fault}
use Rattle.scheme.specs.Keys.{Basis}
use Rattle.scheme.specs.Sessions.{State, Step, sign, withdraw, count, counted}
use Rattle.session.specs.declared.order.Order.{Order}
use Rattle.desk.specs.Hands.{matched, by_hand}
use Rattle.scheme.specs.Steps.{number_in, withdraw_tests, sign_tests, decided, work, step}

-- the second of two tests fails
second_fails : (p q : Bool) (rest : Option Fault) (f g : Fault) (w : Step) (r : Fault → Step) (state : State) → q ≡ false → ((e : Fault) → (r e).after ≡ state)
    → (decided (cond p (cond q rest (Some f)) (Some g)) w r).after ≡ state
second_fails true q rest f g w r state e leaves = rw e (leaves f)
second_fails false q rest f g w r state e leaves = leaves g

module _ (class : Class) (b : Basis) (state : State) (number : ℕ) (other : (is_some state.standing && eqb number (number_in state)) ≡ false) where
  other_withdraw : (step class b state (withdraw number)).after ≡ state
  unfolding step withdraw_tests
  other_withdraw = rw other

  other_sign : (sample area : List ℤ) (words : ℕ) → (step class b state (sign number sample area words)).after ≡ state
  unfolding step sign_tests
  other_sign sample area words = second_fails _ _ _ _ _ _ _ state other (λ e. refl)

pub withdraw_stays : (class : Class) (b : Basis) (state : State) (hand : Option Order) → matched hand state ≡ false → by_hand hand state (λ number. (step class b state (withdraw number)).after) ≡ state
withdraw_stays class b state None h = refl
withdraw_stays class b state (Some order) h = other_withdraw class b state order.number h

pub sign_stays : (class : Class) (b : Basis) (state : State) (hand : Option Order) (sample area : List ℤ) (words : ℕ) → matched hand state ≡ false
    → by_hand hand state (λ number. (step class b state (sign number sample area words)).after) ≡ state
sign_stays class b state None sample area words h = refl
sign_stays class b state (Some order) sample area words h = other_sign class b state order.number h sample area words

-- what count answers
pub record Counted (state : State) (issued : ℕ) (standing : Bool) : Type 0 where
  pub issued_is : issued ≡ length state.entries
  pub standing_is : standing ≡ is_some state.standing

pub count_is : (class : Class) (b : Basis) (state : State) (issued capacity : ℕ) (standing : Bool) → counted issued capacity standing ≡ (step class b state count).answer → Counted state issued standing
unfolding step work
count_is class b state issued capacity standing e = record { issued_is = cc; standing_is = cc }

pub differs_is : (state : State) (hand : Option Order) (order : Order) (issued : ℕ) (standing : Bool) → hand ≡ Some order → Counted state issued standing
    → not (standing && eqb order.number (issued + 1)) ≡ true → matched hand state ≡ false
differs_is state hand order issued standing is counts h =
    ap (λ o. matched o state) is ∙ sym (rw (counts.standing_is, counts.issued_is)) ∙ not-true (standing && eqb order.number (issued + 1)) h
