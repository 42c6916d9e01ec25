-- The adjoint: linear, its own inverse, and turning X into 1/X.
use Rattle.std.proofs.Common.{◌≡◌, ℕ, suc, List, [], ◌∷◌, ◌++◌, map, reverse, length, ℤ, ◌+ℤ◌, ◌*ℤ◌, neg_ℤ, sym, refl, ap, ◌∙◌, arith}
use Rattle.std.proofs.lemmas.List.{length-reverse, reverse-append, reverse-reverse, map-append}
use Rattle.ring.specs.Elements.{sum, negative, adjoint, turned}
use Rattle.algebra.proofs.Lists.{reverse_cons, map_reverse, scaled, sum_append, negative_sum, negative_scaled, negative_negative}
use Rattle.algebra.proofs.Elements.{El, same, ended, turn_push, backed, ◌⊕◌, ◌∙∙◌, turn, back, star, Linear}

reverse_sum : (a b : List ℤ) → length a ≡ length b → reverse (sum a b) ≡ sum (reverse a) (reverse b)
unfolding sum
reverse_sum [] [] e = refl
reverse_sum [] (y ∷ b) e = absurd (omega arith)
reverse_sum (x ∷ a) [] e = absurd (omega arith)
reverse_sum (x ∷ a) (y ∷ b) e =
    reverse_cons (x +ℤ y) (sum a b) ∙ ap (λ (l : List ℤ). l ++ (x +ℤ y) ∷ []) (reverse_sum a b (omega arith))
    ∙ sym (rw (reverse_cons x a, reverse_cons y b) (sum_append (reverse a) (reverse b) (x ∷ []) (y ∷ []) (length-reverse a ∙ omega arith ∙ sym (length-reverse b))))

pub adjoint_cons : (x : ℤ) (a : List ℤ) → adjoint (x ∷ a) ≡ x ∷ negative (reverse a)
unfolding adjoint negative
adjoint_cons x a = refl

adjoint_sum : (a b : List ℤ) → length a ≡ length b → adjoint (sum a b) ≡ sum (adjoint a) (adjoint b)
unfolding sum
adjoint_sum [] [] e = unfold adjoint in refl
adjoint_sum [] (y ∷ b) e = absurd (omega arith)
adjoint_sum (x ∷ a) [] e = absurd (omega arith)
adjoint_sum (x ∷ a) (y ∷ b) e =
    rw (adjoint_cons (x +ℤ y) (sum a b), adjoint_cons x a, adjoint_cons y b, reverse_sum a b (omega arith), negative_sum (reverse a) (reverse b))

adjoint_scaled : (c : ℤ) (a : List ℤ) → adjoint (scaled c a) ≡ scaled c (adjoint a)
adjoint_scaled c [] = unfold adjoint in refl
adjoint_scaled c (x ∷ a) =
    rw (adjoint_cons (c *ℤ x) (scaled c a), adjoint_cons x a, ← map_reverse (λ x. c *ℤ x) a, negative_scaled c (reverse a))

pub star_linear : {m : ℕ} → Linear (star {m = m})
unfolding star ◌⊕◌ ◌∙∙◌
star_linear {m} = record {
  of_sum = λ a b. same _ _ (adjoint_sum a.list b.list (a.size ∙ sym b.size));
  of_multiple = λ c a. same _ _ (adjoint_scaled c a.list);
}

backed_adjoint : (m : ℕ) (a : List ℤ) → length a ≡ suc m → backed (adjoint a) ≡ negative (reverse a)
unfolding backed adjoint negative
backed_adjoint m [] h = absurd (omega arith)
backed_adjoint m (y ∷ t) h = sym (ap (map neg_ℤ) (reverse_cons y t) ∙ map-append neg_ℤ (reverse t) (y ∷ []))

adjoint_turned : (m : ℕ) (a : List ℤ) → length a ≡ suc m → adjoint (turned 1 a) ≡ backed (adjoint a)
adjoint_turned m a h =
    let s = ended a m h in
    rw (backed_adjoint m a h, s.2, turn_push s.0 s.1, adjoint_cons (neg_ℤ s.1) s.0, reverse-append s.0 (s.1 ∷ [])) (unfold negative in refl)

pub star_turn : {m : ℕ} (a : El m) → star (turn a) ≡ back (star a)
unfolding star turn back
star_turn {m} a = same _ _ (adjoint_turned m a.list a.size)

pub reverse_negative : (a : List ℤ) → reverse (negative a) ≡ negative (reverse a)
unfolding negative
reverse_negative a = sym (map_reverse neg_ℤ a)

adjoint_adjoint : (a : List ℤ) → adjoint (adjoint a) ≡ a
adjoint_adjoint [] = unfold adjoint in refl
adjoint_adjoint (x ∷ a) =
    rw (adjoint_cons x a, adjoint_cons x (negative (reverse a)), reverse_negative (reverse a), reverse-reverse a, negative_negative a)

pub star_star : {m : ℕ} (a : El m) → star (star a) ≡ a
unfolding star
star_star a = same _ _ (adjoint_adjoint a.list)
