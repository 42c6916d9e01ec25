use Rattle.std.proofs.Common.{◌≡◌, ◌+◌, ◌≤◌, [], ◌∷◌, ◌++◌, length, take, sym, refl, ap, ◌∙◌, rules}
use Rattle.ring.specs.Classes.{hash_length_of}
use Rattle.session.specs.Logs.{chunks}
use Rattle.session.specs.Statuses.{orders}
use Rattle.session.specs.declared.status.Status.{Status}
use Rattle.session.proofs.Appends.{room_there, appended_log}
use Rattle.session.proofs.States.{same_state}
use Rattle.session.proofs.Transitions.{class_in, kept_in, kept_stands, kept_length}
use Rattle.session.proofs.session.Session.append.Goals as goal

pub returns-clause-state : goal.returns-clause-state
returns-clause-state c =
    let s = c.args.self.now in
    let right = c.hash_length-size.ensures ∙ ap hash_length_of c.class.ensures.class in
    let l : length s.hash ≡ 256 = search rules in
    let free : s.issued + 1 ≤ s.capacity = rw (ap (λ (t : Status). s.issued + orders t) c.requires) at s.free in
    let a = appended_log (hash_length_of (class_in s)) s.issued c.hash_length-size.result (kept_in s) _ s.log.now c.write_entry.new.log right (ap (λ n. take n s.hash) right) (kept_length s l) c.write_entry.ensures
    (room_there (class_in s) (length s.log.now) s.issued s.capacity s.room free) in
    same_state (a.0 ∙ ap (λ xs. chunks (hash_length_of (class_in s)) s.issued s.log.now ++ (xs ∷ [])) (sym (kept_stands s c.requires))) refl refl a.1
