-- An order in hand: what the calls with it answer, and that it is the one that stands. Assumes nothing.
use Rattle.std.specs.Prelude.{ℕ, Bool, true, ◌&&◌, is_some, Some, None, Ok, Err, Option, Result, ◌==◌}
use Rattle.scheme.specs.Refusals.{session_fault}
use Rattle.scheme.specs.Sessions.{State, Answer, refused, ordered, aimed, signed, withdrawn, counted, Step}
use Rattle.scheme.specs.Steps.{number_in}
use Rattle.scheme.specs.declared.fault.SessionFault.{SessionFault}
use Rattle.scheme.specs.declared.fault.SessionFault.TheVariants.{Standing}
use Rattle.session.specs.declared.order.Order.{Order}

-- the order in hand, if there is one, stands
abbrev pub matched : Option Order → State → Bool
matched None state = true
matched (Some order) state = is_some state.standing && order.number == number_in state

-- what announce answers
abbrev pub numbered : Result ℕ SessionFault → Answer
numbered (Ok number) = ordered number
numbered (Err e) = refused (session_fault e)

-- a full hand takes no second order
abbrev pub no_second : Answer → Answer
no_second (refused fault) = refused fault
no_second (ordered number) = refused (session_fault Standing)
no_second aimed = aimed
no_second (signed length changed) = signed length changed
no_second withdrawn = withdrawn
no_second (counted issued capacity standing) = counted issued capacity standing

-- announcing with an empty hand is the session's step; with a full one it is refused
abbrev pub hand_answer : Option Order → Step → Answer
hand_answer None step = step.answer
hand_answer (Some order) step = no_second step.answer

abbrev pub hand_state : Option Order → State → Step → State
hand_state None state step = step.after
hand_state (Some order) state step = state

-- the hand after announce
abbrev pub takes : Result ℕ SessionFault → Option Order → Option Order
takes (Ok number) hand = Some (record { number = number })
takes (Err e) hand = hand

-- one value where the hand is empty, another by the number of its order
abbrev pub by_hand : {A : Type 0} → Option Order → A → (ℕ → A) → A
by_hand None empty by = empty
by_hand (Some order) empty by = by order.number

-- what a call with the order in hand answers; nothing where there was none
abbrev pub answered : {T : Type 0} → (T → Answer) → Option (Result T SessionFault) → Option Answer
answered done None = None
answered done (Some (Ok x)) = Some (done x)
answered done (Some (Err e)) = Some (refused (session_fault e))

-- the hand after a call that ends the order
abbrev pub leaves : {T : Type 0} → Option (Result T SessionFault) → Option Order → Option Order
leaves None hand = hand
leaves (Some (Ok x)) hand = None
leaves (Some (Err e)) hand = hand

-- the hand after such a call, by the session's answer
abbrev pub unspent : Option Order → Answer → Option Order
unspent hand (refused fault) = hand
unspent hand (ordered number) = None
unspent hand aimed = None
unspent hand (signed length changed) = None
unspent hand withdrawn = None
unspent hand (counted issued capacity standing) = None
