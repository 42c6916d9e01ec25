-- Multiplying by powers of X, by negatives of them and by movers keeps squared lengths, and numbers up to order and sign.
use Rattle.std.proofs.Common.{◌≡◌, ℕ, zero, suc, ◌⊎◌, List, [], ◌∷◌, ◌++◌, map, ℤ, pos, negsuc, neg_ℤ, nat_abs, sym, refl, subst, inl, inr}
use lib.IntN.{+ℤ_comm}
use Rattle.std.specs.List.Sorted.{IsPermutation}
use Rattle.std.proofs.lemmas.List.Sorted.{IsPermutation-refl, IsPermutation-sym, IsPermutation-cons, IsPermutation-to_front, IsPermutation-trans}
use Rattle.std.proofs.lemmas.List.{append_assoc, append-nil, map-append}
use Rattle.ring.specs.Elements.{negative}
use Rattle.algebra.proofs.Elements.{El, ◌⊕◌, ⊖, 𝟎, 𝟏, turn, inner, ended, turn_push, zero_⊕, ⊕_zero}
use Rattle.algebra.proofs.Powers.{turns, turns_zero, turns_suc}
use Rattle.algebra.proofs.Products.{◌⊗◌}
use Rattle.algebra.proofs.Rings.{neg_⊗, zero_⊗, turns_is, inner_turns, inner_neg_neg}
use Rattle.algebra.proofs.Mats.{Mat, Vec, ◌▷◌}
use Rattle.algebra.proofs.Norms.{pair}
use Rattle.algebra.proofs.Units.{Monomial}
use Rattle.algebra.proofs.Isometries.{Mover}

-- ---- lists in another order
pub shuffled_same : {X : Type 0} (xs ys zs : List X) → IsPermutation xs ys → ys ≡ zs → IsPermutation xs zs
shuffled_same xs ys zs h e = subst (λ t. IsPermutation xs t) e h

pub shuffled_round : {X : Type 0} (xs ys : List X) → IsPermutation (xs ++ ys) (ys ++ xs)
shuffled_round [] ys = shuffled_same ys ys (ys ++ []) (IsPermutation-refl ys) (sym (append-nil ys))
shuffled_round (x ∷ xs) ys =
    IsPermutation-trans (x ∷ xs ++ ys) ((xs ++ ys) ++ x ∷ []) (ys ++ x ∷ xs)
    (IsPermutation-sym ((xs ++ ys) ++ x ∷ []) (x ∷ xs ++ ys) (IsPermutation-to_front (xs ++ ys) x))
    (rw (append_assoc xs ys (x ∷ [])) (shuffled_same _ _ (ys ++ x ∷ xs) (shuffled_round xs (ys ++ x ∷ [])) (append_assoc ys (x ∷ []) xs)))

shuffled_under : {X : Type 0} (ps xs ys : List X) → IsPermutation xs ys → IsPermutation (ps ++ xs) (ps ++ ys)
shuffled_under [] xs ys h = h
shuffled_under (p ∷ ps) xs ys h = IsPermutation-cons p (ps ++ xs) (ps ++ ys) (shuffled_under ps xs ys h)

pub shuffled_both : {X : Type 0} (xs ys us vs : List X) → IsPermutation xs us → IsPermutation ys vs → IsPermutation (xs ++ ys) (us ++ vs)
shuffled_both xs ys us vs h k =
    IsPermutation-trans (xs ++ ys) (xs ++ vs) (us ++ vs) (shuffled_under xs ys vs k)
    (IsPermutation-trans (xs ++ vs) (vs ++ xs) (us ++ vs) (shuffled_round xs vs)
    (IsPermutation-trans (vs ++ xs) (vs ++ us) (us ++ vs) (shuffled_under vs xs us h) (shuffled_round vs us)))

-- ---- the sizes of an element's numbers
pub abs_neg : (z : ℤ) → nat_abs (neg_ℤ z) ≡ nat_abs z
abs_neg (pos zero) = refl
abs_neg (pos (suc n)) = refl
abs_neg (negsuc n) = refl

abs_negative : (a : List ℤ) → map nat_abs (negative a) ≡ map nat_abs a
unfolding negative
abs_negative [] = refl
abs_negative (x ∷ a) = rw (abs_neg x, abs_negative a)

module _ {m : ℕ} where
  abbrev pub sizes : El m → List ℕ
  sizes a = map nat_abs a.list

  pub sizes_neg : (a : El m) → sizes (⊖ a) ≡ sizes a
  unfolding ⊖
  sizes_neg a = abs_negative a.list

  sizes_turn : (a : El m) → IsPermutation (sizes a) (sizes (turn a))
  unfolding turn
  sizes_turn a =
      let s = ended a.list m a.size in
      rw (s.2, turn_push s.0 s.1, abs_neg s.1, map-append nat_abs s.0 (s.1 ∷ [])) (IsPermutation-to_front (map nat_abs s.0) (nat_abs s.1))

  pub sizes_turns : (k : ℕ) (a : El m) → IsPermutation (sizes a) (sizes (turns k a))
  sizes_turns zero a = rw (turns_zero a) (IsPermutation-refl (sizes a))
  sizes_turns (suc k) a = rw (turns_suc k a) (IsPermutation-trans (sizes a) (sizes (turns k a)) (sizes (turn (turns k a))) (sizes_turns k a) (sizes_turn (turns k a)))

  -- ---- a power, or its negative, times an element
  pub times_power : (p a : El m) (u : Monomial p) → (p ⊗ a ≡ turns u.0 a) ⊎ (p ⊗ a ≡ ⊖ (turns u.0 a))
  times_power p a u = elim u.2 [
    | inl e ↦ inl (rw (e, turns_is u.0 a))
    | inr e ↦ inr (rw (e, turns_is u.0 a) (neg_⊗ (turns u.0 𝟏) a))
  ]

  pub power_sizes : (p a : El m) → Monomial p → IsPermutation (sizes a) (sizes (p ⊗ a))
  power_sizes p a u = elim (times_power p a u) [
    | inl e ↦ rw e (sizes_turns u.0 a)
    | inr e ↦ rw (e, sizes_neg (turns u.0 a)) (sizes_turns u.0 a)
  ]

  pub power_norm : (p a : El m) → Monomial p → inner (p ⊗ a) (p ⊗ a) ≡ inner a a
  power_norm p a u = elim (times_power p a u) [
    | inl e ↦ rw e (inner_turns u.0 a a)
    | inr e ↦ rw (e, inner_neg_neg (turns u.0 a) (turns u.0 a)) (inner_turns u.0 a a)
  ]

  -- ---- movers
  pub only_left : (p q a b : El m) → q ≡ 𝟎 → p ⊗ a ⊕ q ⊗ b ≡ p ⊗ a
  only_left p q a b e = rw (e, zero_⊗ b, ⊕_zero (p ⊗ a))

  pub only_right : (p q a b : El m) → p ≡ 𝟎 → p ⊗ a ⊕ q ⊗ b ≡ q ⊗ b
  only_right p q a b e = rw (e, zero_⊗ a, zero_⊕ (q ⊗ b))

  pub mover_norm : (U : Mat m) (v : Vec m) → Mover U → pair (U ▷ v) (U ▷ v) ≡ pair v v
  unfolding pair ◌▷◌
  mover_norm U v (inl s) =
      rw (
        only_left U.a U.b v.x v.y s.1,
        only_right U.c U.d v.x v.y s.2,
        power_norm U.a v.x s.0,
        power_norm U.d v.y s.3,
      )
  mover_norm U v (inr s) =
      rw (
        only_right U.a U.b v.x v.y s.0,
        only_left U.c U.d v.x v.y s.3,
        power_norm U.b v.y s.1,
        power_norm U.c v.x s.2,
      )
      (+ℤ_comm (inner v.y v.y) (inner v.x v.x))

  pub mover_sizes : (U : Mat m) (v : Vec m) → Mover U → IsPermutation (sizes v.x ++ sizes v.y) (sizes (U ▷ v).x ++ sizes (U ▷ v).y)
  unfolding ◌▷◌
  mover_sizes U v (inl s) =
      rw (only_left U.a U.b v.x v.y s.1, only_right U.c U.d v.x v.y s.2)
      (shuffled_both _ _ _ _ (power_sizes U.a v.x s.0) (power_sizes U.d v.y s.3))
  mover_sizes U v (inr s) =
      rw (only_right U.a U.b v.x v.y s.0, only_left U.c U.d v.x v.y s.3)
      (IsPermutation-trans (sizes v.x ++ sizes v.y) (sizes v.y ++ sizes v.x) (sizes (U.b ⊗ v.y) ++ sizes (U.c ⊗ v.x))
      (shuffled_round (sizes v.x) (sizes v.y))
      (shuffled_both _ _ _ _ (power_sizes U.b v.y s.1) (power_sizes U.c v.x s.2)))
