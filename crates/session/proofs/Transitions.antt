-- A transition's outcomes as steps, in terms of the session's fields.
use Rattle.std.proofs.Common.{◌≡◌, ℕ, ◌<◌, ◌≤◌, Bool, true, false, List, [], length, take, ℤ, IsErrAnd, Some, None, Result, unwrap_or, sym, refl, ap, ◌∙◌, arith}
use Rattle.std.proofs.lemmas.List.{length-take-le}
use Rattle.std.proofs.lemmas.Result.{err_from_is_err_and}
use Rattle.ring.specs.Classes.{size_of, hash_length_of}
use Rattle.ring.specs.Faults.{first_failing}
use Rattle.ring.specs.declared.class.Class.{Class}
use Rattle.ring.specs.declared.class.Class.TheVariants.{One, Two, Three, Four}
use Rattle.ring.specs.declared.fault.Fault.{Fault}
use Rattle.key.specs.Held.{basis_of}
use Rattle.scheme.specs.Hashes.{hash_pair}
use Rattle.scheme.specs.Keys.{Basis}
use Rattle.scheme.specs.Sessions.{State, Call, Answer, Step, refused}
use Rattle.scheme.specs.Steps.{work, listed, standing_hash, standing_pair, tests_of, target_given, signature_given}
use Rattle.scheme.specs.Refusals.{session_fault}
use Rattle.scheme.specs.declared.fault.SessionFault.{SessionFault}
use Rattle.session.specs.Answers.{gives, answer_of}
use Rattle.session.specs.Asks.{call_of, fitting}
use Rattle.session.specs.Held.{state_of, step_of}
use Rattle.session.specs.Statuses.{standing_of}
use Rattle.session.specs.declared.ask.Ask.{Ask}
use Rattle.session.specs.declared.ask.Reply.{Reply}
use Rattle.session.specs.declared.session.Session.{Session}
use Rattle.session.specs.declared.status.Status.{Status}
use Rattle.session.specs.declared.status.Status.TheVariants.{Idle, Standing}
use Rattle.session.proofs.Entries.{length_chunks}
use Rattle.session.proofs.Outcomes.{refused_by, done_by}

pub same_step : {a a' : Answer} {t t' : List ℕ} {s s' : List ℤ} {st st' : State} → a ≡ a' → t ≡ t' → s ≡ s' → st ≡ st' → gives a t s st ≡ gives a' t' s' st'
same_step a t s st = cc

-- the longest hash has 256 bytes
hash_fits : (class : Class) → hash_length_of class ≤ 256
hash_fits One = omega arith
hash_fits Two = omega arith
hash_fits Three = omega arith
hash_fits Four = omega arith

module _ (before : Session) where
  abbrev pub class_in : Class
  class_in = before.key.now.class

  abbrev pub basis_in : Basis
  basis_in = basis_of before.key.now

  -- the hash in memory
  abbrev pub kept_in : List ℕ
  kept_in = take (hash_length_of class_in) before.hash

  pub none_stands : before.status ≡ Idle → (state_of before).standing ≡ None
  none_stands e = ap (λ (status : Status). standing_of status kept_in) e

  pub one_stands : before.status ≡ Standing → (state_of before).standing ≡ Some kept_in
  one_stands e = ap (λ (status : Status). standing_of status kept_in) e

  pub kept_stands : before.status ≡ Standing → standing_hash (state_of before) ≡ kept_in
  kept_stands e = ap (λ (status : Status). unwrap_or (standing_of status kept_in) []) e

  pub kept_length : length before.hash ≡ 256 → length kept_in ≡ hash_length_of class_in
  kept_length e = length-take-le (hash_length_of class_in) before.hash (rw e (hash_fits class_in))

  pub kept_pair : {hash : List ℕ} → before.status ≡ Standing → hash ≡ kept_in → hash_pair (size_of class_in) hash ≡ standing_pair class_in (state_of before)
  unfolding standing_pair
  kept_pair e is = ap (hash_pair (size_of class_in)) (is ∙ sym (kept_stands e))

  entries_are : length (state_of before).entries ≡ before.issued
  entries_are = length_chunks (hash_length_of class_in) before.issued before.log.now

  pub full : before.capacity ≤ before.issued → (state_of before).capacity ≤ length (state_of before).entries
  full h = rw entries_are h

  pub room_left : before.issued < before.capacity → length (state_of before).entries < (state_of before).capacity
  room_left h = rw entries_are h

  -- what the code found in the log
  pub listing : (hash : List ℕ) {r t : Bool} → r ≡ listed (state_of before).entries hash → r ≡ t → listed (state_of before).entries hash ≡ t
  listing hash is so = sym is ∙ so

  -- the call that was matched
  pub asking : {ask plain : Ask} (t : List ℕ) (s : List ℤ) (words : ℕ) → ask ≡ plain → call_of ask t s words ≡ call_of plain t s words
  asking t s words e = ap (λ a. call_of a t s words) e

  -- `call` as it was asked, `plain` as it was matched
  module _ {call plain : Call} (asks : call ≡ plain) where
    pub suited : {r : Bool} → r ≡ fitting class_in call → r ≡ true → fitting class_in plain ≡ true
    suited is so = sym (ap (fitting class_in) asks) ∙ sym is ∙ so

    pub unsuited : {r : Bool} → r ≡ fitting class_in call → r ≡ false → fitting class_in plain ≡ false
    unsuited is so = sym (ap (fitting class_in) asks) ∙ sym is ∙ so

    pub refusing : {t : List ℕ} {s : List ℤ} {f : Fault} → t ≡ target_given call → s ≡ signature_given call
        → first_failing (tests_of class_in basis_in (state_of before) plain) ≡ Some f → gives (refused f) t s (state_of before) ≡ step_of before call
    refusing t s e =
        let fails = ap (λ c. first_failing (tests_of class_in basis_in (state_of before) c)) asks ∙ e in
        same_step refl t s refl ∙ sym (refused_by class_in basis_in (state_of before) call fails)

    -- the exit of a `?`
    pub breaking : {t : List ℕ} {s : List ℤ} (r : Result Reply SessionFault) (e : SessionFault) → IsErrAnd r (λ y. y ≡ e)
        → t ≡ target_given call → s ≡ signature_given call
        → first_failing (tests_of class_in basis_in (state_of before) plain) ≡ Some (session_fault e) → gives (answer_of r) t s (state_of before) ≡ step_of before call
    breaking r e h t s fails =
        let p = err_from_is_err_and r h in
        same_step (ap answer_of p.1 ∙ ap (λ y. refused (session_fault y)) p.2) refl refl refl ∙ refusing t s fails

    -- the areas that the call does not have are empty
    pub lent_target : {t : List ℕ} → t ≡ target_given call → t ≡ target_given plain
    lent_target e = e ∙ ap target_given asks

    pub lent_signature : {s : List ℤ} → s ≡ signature_given call → s ≡ signature_given plain
    lent_signature e = e ∙ ap signature_given asks

    pub working : {to : Step} → first_failing (tests_of class_in basis_in (state_of before) plain) ≡ None
        → to ≡ work class_in basis_in (state_of before) plain → to ≡ step_of before call
    working e is = is ∙ sym (done_by class_in basis_in (state_of before) plain e) ∙ ap (step_of before) (sym asks)
