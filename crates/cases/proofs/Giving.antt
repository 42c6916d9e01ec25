-- What a case gives, from what its operands give.
use Rattle.std.proofs.Common.{◌≡◌, None, Ok, Err, Option, Result, sym, ◌∙◌}
use Rattle.std.specs.Result.{IsErr, IsErrAnd}
use Rattle.cases.specs.Stops.{Gives, unreadable}
use Rattle.cases.specs.declared.stop.Stop.{Stop}

module _ {T X : Type 0} (view : T → X) where
  pub gives_none : (wanted : Option X) (r : Result T Stop) → wanted ≡ None → IsErr r → Gives view wanted r
  gives_none wanted (Err e) none h = λ _. none
  gives_none wanted (Ok x) none h = absurd (cc h)

  -- an error is handed on
  pub gives_err : (wanted : Option X) (e : Stop) (r : Result T Stop) → (e ≡ unreadable → wanted ≡ None) → IsErrAnd r (λ d. d ≡ e) → Gives view wanted r
  gives_err wanted e (Err d) none h = λ u. none (sym h ∙ u)
  gives_err wanted e (Ok x) none h = absurd h

  pub gives_same : (wanted other : Option X) (r : Result T Stop) → wanted ≡ other → Gives view other r → Gives view wanted r
  gives_same wanted other r e h = rw e h
