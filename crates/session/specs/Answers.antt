-- What the results of a session's calls stand for. Assumes nothing.
use Rattle.std.specs.Prelude.{ℕ, Bool, List, ℤ, Ok, Err, Result}
use Rattle.scheme.specs.Refusals.{session_fault}
use Rattle.scheme.specs.Sessions.{State, Step, Answer, refused, ordered, aimed, signed, withdrawn, counted}
use Rattle.scheme.specs.declared.fault.SessionFault.{SessionFault}
use Rattle.session.specs.declared.ask.Reply.{Reply}
use Rattle.session.specs.declared.ask.Reply.TheVariants.{Ordered, Aimed, Signed, Withdrawn}
use Rattle.session.specs.declared.order.Count.{Count}
use Rattle.session.specs.declared.order.Order.{Order}
use Rattle.session.specs.declared.order.Returned.{Returned}

-- what a call gave: its answer, its areas and the state afterwards
abbrev pub gives : Answer → List ℕ → List ℤ → State → Step
gives answer target_area signature_area after = record { answer = answer; target_area = target_area; signature_area = signature_area; after = after }

-- the reply of a transition
abbrev pub replied : Reply → Answer
replied (Ordered number) = ordered number
replied Aimed = aimed
replied (Signed length changed) = signed length changed
replied Withdrawn = withdrawn

abbrev pub answer_of : Result Reply SessionFault → Answer
answer_of (Ok reply) = replied reply
answer_of (Err e) = refused (session_fault e)

abbrev pub announced : Result Order SessionFault → Answer
announced (Ok order) = ordered order.number
announced (Err e) = refused (session_fault e)

abbrev pub targeted : Result Unit SessionFault → Answer
targeted (Ok _) = aimed
targeted (Err e) = refused (session_fault e)

abbrev pub issued : Result (ℕ × Bool) Returned → Answer
issued (Ok answer) = signed answer.0 answer.1
issued (Err returned) = refused (session_fault returned.fault)

abbrev pub ended : Result Unit Returned → Answer
ended (Ok _) = withdrawn
ended (Err returned) = refused (session_fault returned.fault)

abbrev pub counts : Count → Answer
counts count = counted count.issued count.capacity count.standing
