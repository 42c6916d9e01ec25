-- What a case gives, where it can be read. Assumes nothing.
use Rattle.std.specs.Prelude.{◌≡◌, List, [], ◌∷◌, Some, None, Option, Result, MatchResult}
use Rattle.cases.specs.declared.stop.Stop.{Stop}
use Rattle.cases.specs.declared.stop.Stop.TheVariants.{NoMemory, Unreadable}

abbrev pub no_memory : Stop
no_memory = NoMemory

abbrev pub unreadable : Stop
unreadable = Unreadable

-- The value that is wanted; what cannot be read is refused. Memory may run out at any time.
abbrev pub Gives : {T X : Type 0} → (T → X) → Option X → Result T Stop → Type 0
Gives view wanted result = MatchResult result (λ x. wanted ≡ Some (view x)) (λ e. e ≡ unreadable → wanted ≡ None)

-- an operand that cannot be read makes a case that cannot be read
abbrev pub given : {X Y : Type 0} → Option X → (X → Option Y) → Option Y
given None f = None
given (Some x) f = f x

-- one step for each item, as long as each step gives something
abbrev pub fold_given : {X Y : Type 0} → (X → Y → Option X) → X → List Y → Option X
fold_given step x [] = Some x
fold_given step x (y ∷ ys) = given (step x y) (λ z. fold_given step z ys)
