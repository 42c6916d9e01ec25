-- A reply that is no refusal is the answer of the call's work.
use Rattle.std.proofs.Common.{◌≡◌, ℕ, Bool, List, ℤ, Some, None, Option, refl, ap}
use Rattle.ring.specs.Faults.{first_failing}
use Rattle.ring.specs.declared.class.Class.{Class}
use Rattle.ring.specs.declared.fault.Fault.{Fault}
use Rattle.scheme.specs.Keys.{Basis}
use Rattle.scheme.specs.Sessions.{State, Call, announce, sign, Step, refused, ordered, signed}
use Rattle.scheme.specs.Steps.{step, work, decided, refusal, tests_of}
use Rattle.session.specs.Answers.{gives, replied}
use Rattle.session.specs.declared.ask.Reply.{Reply}
use Rattle.session.specs.declared.ask.Reply.TheVariants.{Ordered, Aimed, Signed, Withdrawn}

never_refused : (reply : Reply) (f : Fault) → replied reply ≡ refused f → ⊥
never_refused (Ordered number) f e = cc
never_refused Aimed f e = cc
never_refused (Signed length changed) f e = cc
never_refused Withdrawn f e = cc

pub own_reply : (class : Class) (b : Basis) (state : State) (call : Call) (reply : Reply) {t : List ℕ} {s : List ℤ} {after : State}
    → gives (replied reply) t s after ≡ step class b state call → replied reply ≡ (work class b state call).answer
unfolding step
own_reply class b state call reply e =
    elim (first_failing (tests_of class b state call)) as (λ (first : Option Fault).
    replied reply ≡ (decided first (work class b state call) (refusal state call)).answer → replied reply ≡ (work class b state call).answer) [
      | None ↦ (λ h. h)
      | Some f ↦ (λ h. absurd (never_refused reply f h))
    ] (ap (λ (whole : Step). whole.answer) e)

only_ordered : (reply : Reply) (number : ℕ) → replied reply ≡ ordered number → ((x : ℕ) → reply ≡ Ordered x → ⊥) → ⊥
only_ordered (Ordered k) number e other = other k refl
only_ordered Aimed number e other = cc
only_ordered (Signed k changed) number e other = cc
only_ordered Withdrawn number e other = cc

only_signed : (reply : Reply) (k : ℕ) (changed : Bool) → replied reply ≡ signed k changed → ((x : ℕ) (y : Bool) → reply ≡ Signed x y → ⊥) → ⊥
only_signed (Ordered x) k changed e other = cc
only_signed Aimed k changed e other = cc
only_signed (Signed x y) k changed e other = other x y refl
only_signed Withdrawn k changed e other = cc

module _ (class : Class) (b : Basis) (state : State) (reply : Reply) {t : List ℕ} {s : List ℤ} {after : State} where
  pub announce_orders : (hash : List ℕ) → gives (replied reply) t s after ≡ step class b state (announce hash) → ((x : ℕ) → reply ≡ Ordered x → ⊥) → ⊥
  unfolding work
  announce_orders hash e other = only_ordered reply _ (own_reply class b state (announce hash) reply e) other

  pub sign_signs : (order : ℕ) (sample area : List ℤ) (words : ℕ) → gives (replied reply) t s after ≡ step class b state (sign order sample area words)
      → ((x : ℕ) (y : Bool) → reply ≡ Signed x y → ⊥) → ⊥
  unfolding work
  sign_signs order sample area words e other = only_signed reply _ _ (own_reply class b state (sign order sample area words) reply e) other
