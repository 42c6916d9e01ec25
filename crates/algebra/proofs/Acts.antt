-- The product by Horner's rule along the first list, for any linear map in the place of X.
use Rattle.std.proofs.Common.{◌≡◌, ℕ, List, [], ◌∷◌, ℤ, pos, sym, refl, ap, ◌∙◌}
use Rattle.algebra.proofs.Elements.{El, Linear, of_zero, ◌⊕◌, ◌∙∙◌, 𝟎, inner, turn, back, inner_sum, inner_scale, inner_zero, inner_comm, ⊕_swap, ⊕_zero, scale_sum, scale_scale, scale_zero}
use Rattle.algebra.proofs.Turns.{inner_turn, back_linear, turn_back, back_turn}

module _ {m : ℕ} where
  -- a_0·v + T (a_1·v + T (a_2·v + ..))
  unfoldable pub act : (El m → El m) → List ℤ → El m → El m
  act T [] v = 𝟎
  act T (x ∷ a) v = x ∙∙ v ⊕ T (act T a v)

  -- a map that turns T into T' turns acts by T into acts by T'
  pub carries : (S T T' : El m → El m) → Linear S → ((v : El m) → S (T v) ≡ T' (S v)) → (a : List ℤ) (v : El m) → S (act T a v) ≡ act T' a (S v)
  unfolding act
  carries S T T' l h [] v = of_zero S l
  carries S T T' l h (x ∷ a) v =
      l.of_sum (x ∙∙ v) (T (act T a v)) ∙ rw (l.of_multiple x v, h (act T a v), carries S T T' l h a v)

  pub act_linear : (T : El m → El m) → Linear T → (a : List ℤ) → Linear (act T a)
  unfolding act
  act_linear T l [] = record { of_sum = λ u v. sym (⊕_zero 𝟎); of_multiple = λ c u. sym (scale_null c) }
    where
      scale_null : (c : ℤ) → c ∙∙ (𝟎 {m = m}) ≡ 𝟎
      scale_null c = ap (λ t. c ∙∙ t) (sym (scale_zero 𝟎)) ∙ scale_scale c (pos 0) 𝟎 ∙ scale_zero (c ∙∙ 𝟎)
  act_linear T l (x ∷ a) = record {
    of_sum = λ u v. rw (scale_sum x u v, (act_linear T l a).of_sum u v, l.of_sum (act T a u) (act T a v)) (⊕_swap (x ∙∙ u) (x ∙∙ v) (T (act T a u)) (T (act T a v)));
    of_multiple = λ c u. rw ((act_linear T l a).of_multiple c u, l.of_multiple c (act T a u), scale_scale x c u) (sym (scale_sum c (x ∙∙ u) (T (act T a u))));
  }

  -- acts by maps that commute commute
  pub acts_commute : (S T : El m → El m) → Linear S → Linear T → ((v : El m) → S (T v) ≡ T (S v)) → (a b : List ℤ) (v : El m) →
      act S a (act T b v) ≡ act T b (act S a v)
  acts_commute S T l k h a b v =
      carries (act S a) T T (act_linear S l a) (λ u. sym (carries T S S k (λ w. sym (h w)) a u)) b v

  -- the adjoint of an act by X is the act by 1/X
  pub inner_act : (a : List ℤ) (u v : El m) → inner (act turn a u) v ≡ inner u (act back a v)
  unfolding act
  inner_act [] u v = inner_zero v ∙ sym (inner_comm u 𝟎 ∙ inner_zero u)
  inner_act (x ∷ a) u v =
      inner_sum (x ∙∙ u) (turn (act turn a u)) v
      ∙ rw (inner_scale x u v, inner_turn (act turn a u) v, inner_act a u (back v))
      (sym (inner_comm u (x ∙∙ v ⊕ back (act back a v)) ∙ inner_sum (x ∙∙ v) (back (act back a v)) u
      ∙ rw (inner_scale x v u, inner_comm v u, inner_comm (back (act back a v)) u, carries back back back back_linear (λ w. refl) a v)))

  pub turn_back_swap : (v : El m) → turn (back v) ≡ back (turn v)
  turn_back_swap v = turn_back v ∙ sym (back_turn v)
