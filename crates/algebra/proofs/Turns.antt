-- X times an element and an element divided by X: linear, inverse and adjoint to each other.
use Rattle.std.proofs.Common.{◌≡◌, ℕ, suc, List, [], ◌∷◌, ◌++◌, length, ℤ, ◌+ℤ◌, ◌*ℤ◌, neg_ℤ, sym, refl, ap, ◌∙◌, arith}
use lib.IntN.{+ℤ_comm, +ℤ_idr, neg_ℤ-neg_ℤ, neg_ℤ-+ℤ}
use Rattle.std.proofs.lemmas.List.{map-append}
use Rattle.ring.specs.Elements.{dot, sum, turned}
use Rattle.algebra.proofs.Integers.{*ℤ_neg, neg_*ℤ}
use Rattle.algebra.proofs.Lists.{scaled, sum_append, dot_append}
use Rattle.algebra.proofs.Elements.{El, same, ended, turn_push, backed, ◌⊕◌, ◌∙∙◌, inner, turn, back, Linear}

turned_sum : (m : ℕ) (a b : List ℤ) → length a ≡ suc m → length b ≡ suc m → turned 1 (sum a b) ≡ sum (turned 1 a) (turned 1 b)
turned_sum m a b h k =
    let s = ended a m h in
    let t = ended b m k in
    rw (s.2, t.2, turn_push s.0 s.1, turn_push t.0 t.1, sum_append s.0 t.0 (s.1 ∷ []) (t.1 ∷ []) (s.3 ∙ sym t.3))
    (unfold sum in turn_push (sum s.0 t.0) (s.1 +ℤ t.1) ∙ ap {B = List ℤ} (λ z. z ∷ sum s.0 t.0) (neg_ℤ-+ℤ s.1 t.1))

turned_scaled : (m : ℕ) (c : ℤ) (a : List ℤ) → length a ≡ suc m → turned 1 (scaled c a) ≡ scaled c (turned 1 a)
turned_scaled m c a h =
    let s = ended a m h in
    rw (s.2, turn_push s.0 s.1, map-append (λ x. c *ℤ x) s.0 (s.1 ∷ []), turn_push (scaled c s.0) (c *ℤ s.1), *ℤ_neg c s.1)

pub turn_linear : {m : ℕ} → Linear (turn {m = m})
unfolding turn ◌⊕◌ ◌∙∙◌
turn_linear {m} = record {
  of_sum = λ a b. same _ _ (turned_sum m a.list b.list a.size b.size);
  of_multiple = λ c a. same _ _ (turned_scaled m c a.list a.size);
}

backed_sum : (a b : List ℤ) → length a ≡ length b → backed (sum a b) ≡ sum (backed a) (backed b)
unfolding backed sum
backed_sum [] [] e = refl
backed_sum [] (y ∷ b) e = refl
backed_sum (x ∷ a) [] e = absurd (omega arith)
backed_sum (x ∷ a) (y ∷ b) e = rw (sum_append a b (neg_ℤ x ∷ []) (neg_ℤ y ∷ []) (omega arith), neg_ℤ-+ℤ x y)

backed_scaled : (c : ℤ) (a : List ℤ) → backed (scaled c a) ≡ scaled c (backed a)
unfolding backed
backed_scaled c [] = refl
backed_scaled c (x ∷ a) = rw (map-append (λ x. c *ℤ x) a (neg_ℤ x ∷ []), *ℤ_neg c x)

pub back_linear : {m : ℕ} → Linear (back {m = m})
unfolding back ◌⊕◌ ◌∙∙◌
back_linear {m} = record {
  of_sum = λ a b. same _ _ (backed_sum a.list b.list (a.size ∙ sym b.size));
  of_multiple = λ c a. same _ _ (backed_scaled c a.list);
}

pub turn_back : {m : ℕ} (a : El m) → turn (back a) ≡ a
unfolding turn back turned backed
turn_back a = same _ _ (go a.list)
  where
    go : (l : List ℤ) → turned 1 (backed l) ≡ l
    go [] = refl
    go (x ∷ l) = turn_push l (neg_ℤ x) ∙ ap {B = List ℤ} (λ z. z ∷ l) (neg_ℤ-neg_ℤ x)

pub back_turn : {m : ℕ} (a : El m) → back (turn a) ≡ a
unfolding turn back backed
back_turn {m} a =
    let s = ended a.list m a.size in
    same _ _ (ap (λ l. backed (turned 1 l)) s.2 ∙ ap backed (turn_push s.0 s.1) ∙ rw (neg_ℤ-neg_ℤ s.1) (sym s.2))

-- dividing is the adjoint of turning
dot_turned : (u : List ℤ) (x : ℤ) (b : List ℤ) → length b ≡ suc (length u) → dot (neg_ℤ x ∷ u) b ≡ dot (u ++ x ∷ []) (backed b)
unfolding backed dot
dot_turned u x [] h = absurd (omega arith)
dot_turned u x (y ∷ v) h =
    rw (dot_append u (x ∷ []) v (neg_ℤ y ∷ []) (omega arith)) (rw (neg_*ℤ x y, *ℤ_neg x y, +ℤ_idr (neg_ℤ (x *ℤ y))) (+ℤ_comm (neg_ℤ (x *ℤ y)) (dot u v)))

pub inner_turn : {m : ℕ} (a b : El m) → inner (turn a) b ≡ inner a (back b)
unfolding turn back inner
inner_turn {m} a b =
    let s = ended a.list m a.size in
    rw (s.2, turn_push s.0 s.1) (dot_turned s.0 s.1 b.list (omega (arith, b.size, s.3)))
