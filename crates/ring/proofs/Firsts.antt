-- The first failing test of a list that is put together.
use Rattle.std.proofs.Common.{◌≡◌, ℕ, Bool, true, false, cond, List, [], ◌∷◌, ◌++◌, Some, None, Ok, Err, Result, sym, refl, ap, ◌∙◌, arith}
use Rattle.ring.specs.declared.fault.Fault.{Fault}
use Rattle.ring.specs.Faults.{Test, first_failing, Answers}

pub first_passes : (t : Test) (ts : List Test) → t.passes ≡ true → first_failing (t ∷ ts) ≡ first_failing ts
first_passes t ts e = ap (λ b. cond b (first_failing ts) (Some t.refusal)) e

pub first_fails : (t : Test) (ts : List Test) → t.passes ≡ false → first_failing (t ∷ ts) ≡ Some t.refusal
first_fails t ts e = ap (λ b. cond b (first_failing ts) (Some t.refusal)) e

-- the tests before these have passed
pub first_after : (ts us : List Test) → first_failing ts ≡ None → first_failing (ts ++ us) ≡ first_failing us
first_after [] us e = refl
first_after (t ∷ ts) us e = go t.passes refl (first_after ts us)
  where
    go : (b : Bool) → t.passes ≡ b → (first_failing ts ≡ None → first_failing (ts ++ us) ≡ first_failing us) → first_failing (t ∷ (ts ++ us)) ≡ first_failing us
    go true p rest = first_passes t (ts ++ us) p ∙ rest (sym (first_passes t ts p) ∙ e)
    go false p rest = let clash : Some t.refusal ≡ None = sym (first_fails t ts p) ∙ e in cc

-- one of the tests before these has failed
pub first_before : (ts us : List Test) (f : Fault) → first_failing ts ≡ Some f → first_failing (ts ++ us) ≡ Some f
first_before [] us f e = let clash : None ≡ Some f = e in cc
first_before (t ∷ ts) us f e = go t.passes refl (first_before ts us f)
  where
    go : (b : Bool) → t.passes ≡ b → (first_failing ts ≡ Some f → first_failing (ts ++ us) ≡ Some f) → first_failing (t ∷ (ts ++ us)) ≡ Some f
    go true p rest = first_passes t (ts ++ us) p ∙ rest (sym (first_passes t ts p) ∙ e)
    go false p rest = first_fails t (ts ++ us) p ∙ (sym (first_fails t ts p) ∙ e)

-- where none fails, each passes
pub none_parts : (t : Test) (ts : List Test) → first_failing (t ∷ ts) ≡ None → (t.passes ≡ true) × (first_failing ts ≡ None)
none_parts t ts e = go t.passes refl
  where
    go : (b : Bool) → t.passes ≡ b → (t.passes ≡ true) × (first_failing ts ≡ None)
    go true p = (p, sym (first_passes t ts p) ∙ e)
    go false p = absurd (let clash : Some t.refusal ≡ None = sym (first_fails t ts p) ∙ e in let z : ◌≡◌ {A = ℕ} 0 1 = cc in omega arith)

-- a call whose tests pass does its work
pub answers_work : {T E : Type 0} (meaning : E → Fault) (tests : List Test) (W : T → Type 0) (r : Result T E) → first_failing tests ≡ None → Answers meaning tests W r → (x : T) × (r ≡ Ok x) × W x
answers_work meaning tests W (Ok x) none h = (x, refl, h.1)
answers_work meaning tests W (Err e) none h = absurd (let clash : None ≡ Some (meaning e) = sym none ∙ h in let z : ◌≡◌ {A = ℕ} 0 1 = cc in omega arith)

-- where none of two lists fails, none of the second does
pub none_after : (ts us : List Test) → first_failing (ts ++ us) ≡ None → (first_failing ts ≡ None) × (first_failing us ≡ None)
none_after [] us e = (refl, e)
none_after (t ∷ ts) us e =
    let p = none_parts t (ts ++ us) e in
    let q = none_after ts us p.1 in
    (first_passes t ts p.0 ∙ q.0, q.1)
