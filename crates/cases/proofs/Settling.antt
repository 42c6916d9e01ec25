-- What is written of a call that tests and then does its work.
use Rattle.std.proofs.Common.{◌≡◌, ℕ, suc, zero, Bool, true, eqb, List, replicate, Ok, Err, Result, OnErr, refl}
use Rattle.std.specs.List.{list_all}
use Rattle.ring.specs.declared.fault.Fault.{Fault}
use Rattle.ring.specs.Faults.{Test, first_failing, Answers}
use Rattle.cases.specs.Texts.{outcome_or, bytes_text, settled_text}

pub all_same : {X : Type 0} (p : X → Bool) (x : X) (n : ℕ) → p x ≡ true → list_all p (replicate n x) ≡ true
all_same p x zero e = refl
all_same p x (suc n) e = rw (e, all_same p x n e)

pub settled_is : {E : Type 0} (meaning : E → Fault) (tests : List Test) (wanted : List ℕ) (room : ℕ) (after : List ℕ) (r : Result (Unit {0}) E)
    → Answers meaning tests (λ _. after ≡ wanted) r → OnErr r (after ≡ replicate room 7) → settled_text meaning after r ≡ outcome_or (first_failing tests) (bytes_text wanted)
settled_is meaning tests wanted room after (Ok done) h k = rw (h.0, h.1)
settled_is meaning tests wanted room after (Err e) h k = rw (h, k, all_same (λ b. eqb b 7) 7 room refl)
