-- What an iterator over chunks of one size gives.
use Rattle.std.proofs.Common.{◌≡◌, ℕ, ◌+◌, ◌/◌, ◌<◌, List, ◌∷◌, ◌++◌, length, take, drop, Some, None, Option, sym, ap, subst, ◌∙◌, arith, add-one, length-append, Bor}
use Rattle.std.specs.Simd.{first_chunks}
use Rattle.std.proofs.Math.Nat.{add-div_left}
use Rattle.std.proofs.lemmas.Grind.{common_steps}
use Rattle.std.proofs.lemmas.Iterator.{YieldsList}
use Rattle.std.proofs.lemmas.Iterator.Splits.{YieldsList-from_shown_while}

module _ {A : Type 0} where
  take_front : (n : ℕ) (x rest : List A) → length x ≡ n → take n (x ++ rest) ≡ x
  take_front n x rest e = grind (arith, common_steps)

  drop_front : (n : ℕ) (x rest : List A) → length x ≡ n → drop n (x ++ rest) ≡ rest
  drop_front n x rest e = grind (arith, common_steps)

  chunk_first : (n : ℕ) (x rest : List A) → 0 < n → length x ≡ n → first_chunks n (length (x ++ rest) / n) (x ++ rest) ≡ x ∷ first_chunks n (length rest / n) rest
  chunk_first n x rest h e =
      let long : length (x ++ rest) ≡ n + length rest = length-append x rest ∙ ap (λ k. k + length rest) e in
      let more : length (x ++ rest) / n ≡ length rest / n + 1 = ap (λ k. k / n) long ∙ add-div_left (length rest) h in
      rw (more, add-one) (rw (take_front n x rest e, drop_front n x rest e))

  no_chunk : (n : ℕ) (rest : List A) → length rest < n → length (first_chunks n (length rest / n) rest) ≡ 0
  no_chunk n rest h = let few : length rest / n ≡ 0 = grind arith in rw few

module _ {A S : Type 0} (steps : S → Option (Bor (List A)) → S → Type 0) (rest : S → List A) (size : S → ℕ)
    (ends : (s t : S) → steps s None t → length (rest s) < size s)
    (goes : (s : S) (x : Bor (List A)) (t : S) → steps s (Some x) t → (size t ≡ size s) × (rest s ≡ x.now ++ rest t) × (length x.now ≡ size s)) where
  abbrev shown : S → List (List A)
  shown s = first_chunks (size s) (length (rest s) / size s) (rest s)

  none : (s t : S) → 0 < size s → steps s None t → length (shown s) ≡ 0
  none s t h p = no_chunk (size s) (rest s) (ends s t p)

  some : (s : S) (x : Bor (List A)) (t : S) → 0 < size s → steps s (Some x) t → (0 < size t) × (shown s ≡ x.now ∷ shown t)
  some s x t h p =
      let q = goes s x t p in
      let positive : 0 < size t = rw q.0 h in
      (positive, ap (λ ys. first_chunks (size s) (length ys / size s) ys) q.1 ∙ chunk_first (size s) x.now (rest t) h q.2 ∙ ap (λ n. x.now ∷ first_chunks n (length (rest t) / n) (rest t)) (sym q.0))

  pub YieldsList-from_chunks : (s : S) (n : ℕ) (xs : List A) → 0 < n → rest s ≡ xs → size s ≡ n → YieldsList steps (λ x. x.now) s (first_chunks n (length xs / n) xs)
  YieldsList-from_chunks s n xs h is long =
      let positive : 0 < size s = rw long h in
      subst (λ ys. YieldsList steps (λ x. x.now) s (first_chunks n (length ys / n) ys)) is
      (subst (λ m. YieldsList steps (λ x. x.now) s (first_chunks m (length (rest s) / m) (rest s))) long (YieldsList-from_shown_while steps (λ x. x.now) shown (λ u. 0 < size u) none some s positive))
