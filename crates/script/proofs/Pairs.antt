-- Lists taken two at a time, and element by element.
use Rattle.std.proofs.Common.{◌≡◌, ℕ, suc, ◌+◌, ◌/◌, ◌<◌, Bool, true, false, ◌&&◌, List, [], ◌∷◌, ◌++◌, length, get_or, map, take, refl, sym, ap, ◌∙◌, arith}
use Rattle.std.specs.Simd.{first_chunks}
use Rattle.std.proofs.lemmas.List.{take_more}
use Rattle.script.specs.Hexadecimal.{every, by_twos}

-- f of the two elements of a pair
abbrev pub both : {X : Type 0} → (ℕ → ℕ → X) → List ℕ → X
both f pair = f (get_or pair 0 0) (get_or pair 1 0)

and_assoc : (x y z : Bool) → ((x && y) && z) ≡ (x && (y && z))
and_assoc true y z = refl
and_assoc false y z = refl

pub pairs_twos : {X : Type 0} (f : ℕ → ℕ → X) (xs : List ℕ) → map (both f) (first_chunks 2 (length xs / 2) xs) ≡ by_twos f xs
unfolding by_twos
pairs_twos f [] = refl
pairs_twos f (a ∷ []) = refl
pairs_twos f (a ∷ b ∷ rest) =
    let half : length (a ∷ b ∷ rest) / 2 ≡ suc (length rest / 2) = omega arith in
    rw half (ap (λ ys. f a b ∷ ys) (pairs_twos f rest))

-- a digit more, or another byte
every_append : (p : ℕ → Bool) (xs : List ℕ) (x : ℕ) → every p (xs ++ (x ∷ [])) ≡ (every p xs && p x)
unfolding every
every_append p [] x = and_true (p x)
  where
    and_true : (b : Bool) → (b && true) ≡ b
    and_true true = refl
    and_true false = refl
every_append p (y ∷ xs) x = ap (λ (t : Bool). p y && t) (every_append p xs x) ∙ sym (and_assoc (p y) (every p xs) (p x))

pub every_next : (p : ℕ → Bool) (xs : List ℕ) (i : ℕ) → i < length xs → every p (take (i + 1) xs) ≡ (every p (take i xs) && p (get_or xs i 0))
every_next p xs i h = ap (every p) (take_more xs i 0 h) ∙ every_append p (take i xs) (get_or xs i 0)
