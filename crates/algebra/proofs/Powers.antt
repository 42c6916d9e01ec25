-- X^k times an element as a list, X^k itself, and the numbers of an element as inner products with X^k.
use Rattle.std.proofs.Common.{◌≡◌, ℕ, zero, suc, ◌+◌, ◌-◌, ◌<◌, ◌≤◌, List, [], ◌∷◌, ◌++◌, map, reverse, length, get_or, take, drop, replicate, ℤ, pos, ◌+ℤ◌, ◌*ℤ◌, neg_ℤ, sym, refl, ap, ◌∙◌, add-one, arith, length-append, take-append-drop}
use lib.IntN.{+ℤ_idr, +ℤ_idl, *ℤ-zero, zero-*ℤ}
use Rattle.std.proofs.lemmas.List.{length-replicate, length-take-le, length-reverse, reverse-append, append_assoc, append-nil, take-replicate, replicate-append-replicate, replicate_more}
use Rattle.ring.specs.Elements.{dot, crossed, coefficient, sum, negative, adjoint, turned, constant}
use Rattle.scheme.specs.Powers.{powered}
use Rattle.algebra.proofs.Integers.{*ℤ_one, one_*ℤ}
use Rattle.algebra.proofs.Sizes.{length_turned, length_negative}
use Rattle.algebra.proofs.Lists.{scaled, sum_cons, sum_comm, sum_zeros, dot_append, dot_negative, dot_zeros, negative_negative, negative_append, reverse_cons}
use Rattle.algebra.proofs.Elements.{El, el, same, turn_push, ◌⊕◌, ◌∙∙◌, 𝟎, 𝟏, turn, inner, star, Linear}
use Rattle.algebra.proofs.Turns.{turn_linear}
use Rattle.algebra.proofs.Adjoints.{adjoint_cons}
use Rattle.algebra.proofs.Acts.{act}

pub powered_zero : (a : List ℤ) → powered 0 a ≡ a
unfolding powered
powered_zero a = refl

pub powered_suc : (k : ℕ) (a : List ℤ) → powered (suc k) a ≡ turned 1 (powered k a)
unfolding powered
powered_suc k a = refl

pub length_powered : (k : ℕ) (a : List ℤ) → length (powered k a) ≡ length a
unfolding powered
length_powered zero a = refl
length_powered (suc k) a = length_turned 1 (powered k a) ∙ length_powered k a

pub powered_split : (k : ℕ) (p q : List ℤ) → length q ≡ k → powered k (p ++ q) ≡ negative q ++ p
unfolding powered negative
powered_split zero p [] h = append-nil p
powered_split zero p (x ∷ q) h = absurd (omega arith)
powered_split (suc k) p [] h = absurd (omega arith)
powered_split (suc k) p (x ∷ q) h =
    ap (λ l. turned 1 (powered k l)) (sym (append_assoc p (x ∷ []) q))
    ∙ ap (turned 1) (powered_split k (p ++ x ∷ []) q (omega arith) ∙ sym (append_assoc (map neg_ℤ q) p (x ∷ [])))
    ∙ turn_push (map neg_ℤ q ++ p) x

-- the coefficient's sum is an inner product
adjoint_powered : (k : ℕ) (y : ℤ) (t : List ℤ) → k ≤ length t → powered k (adjoint (y ∷ t)) ≡ reverse (y ∷ take k t) ++ negative (reverse (drop k t))
adjoint_powered k y t h =
    let split : adjoint (y ∷ t) ≡ (y ∷ negative (reverse (drop k t))) ++ negative (reverse (take k t)) =
    adjoint_cons y t ∙ ap {B = List ℤ} (λ l. y ∷ l)
    (ap (λ l. negative (reverse l)) (sym (take-append-drop k t)) ∙ ap negative (reverse-append (take k t) (drop k t))
    ∙ negative_append (reverse (drop k t)) (reverse (take k t))) in
    ap (powered k) split
    ∙ powered_split k (y ∷ negative (reverse (drop k t))) (negative (reverse (take k t)))
    (length_negative (reverse (take k t)) ∙ length-reverse (take k t) ∙ length-take-le k t h)
    ∙ rw (negative_negative (reverse (take k t)), reverse_cons y (take k t)) (sym (append_assoc (reverse (take k t)) (y ∷ []) (negative (reverse (drop k t)))))

pub coefficient_is : (a b : List ℤ) (k : ℕ) → length a ≡ length b → k < length b → coefficient a b k ≡ dot a (powered k (adjoint b))
unfolding coefficient crossed
coefficient_is a [] k e h = absurd (omega arith)
coefficient_is a (y ∷ t) k e h =
    rw (adjoint_powered k y t (omega arith), add-one k)
    (sym (ap (λ l. dot l (reverse (y ∷ take k t) ++ negative (reverse (drop k t)))) (sym (take-append-drop (suc k) a))
    ∙ dot_append (take (suc k) a) (drop (suc k) a) (reverse (y ∷ take k t)) (negative (reverse (drop k t)))
    (length-take-le (suc k) a (omega arith) ∙ sym (length-reverse (y ∷ take k t) ∙ ap suc (length-take-le k t (omega arith))))
    ∙ ap (λ z. dot (take (suc k) a) (reverse (y ∷ take k t)) +ℤ z) (dot_negative (drop (suc k) a) (reverse (drop k t)))))

-- ---- X^k itself
pub constant_is : (m : ℕ) (c : ℤ) → constant (suc m) c ≡ c ∷ replicate m (pos 0)
unfolding constant
constant_is m c = ap {B = List ℤ} (λ l. c ∷ l) (take-replicate m (suc m) (pos 0) (omega arith))

pub negative_zeros : (k : ℕ) → negative (replicate k (pos 0)) ≡ replicate k (pos 0)
unfolding negative
negative_zeros zero = refl
negative_zeros (suc k) = ap {B = List ℤ} (λ l. pos 0 ∷ l) (negative_zeros k)

pub powered_constant : (k m : ℕ) (c : ℤ) → k ≤ m → powered k (constant (suc m) c) ≡ replicate k (pos 0) ++ c ∷ replicate (m - k) (pos 0)
powered_constant k m c h =
    let e : m - k + k ≡ m = omega arith in
    ap (powered k) (constant_is m c ∙ ap {B = List ℤ} (λ i. c ∷ replicate i (pos 0)) (sym e)
    ∙ ap {B = List ℤ} (λ l. c ∷ l) (sym (replicate-append-replicate (m - k) k (pos 0))))
    ∙ powered_split k (c ∷ replicate (m - k) (pos 0)) (replicate k (pos 0)) (length-replicate k (pos 0))
    ∙ ap (λ (l : List ℤ). l ++ c ∷ replicate (m - k) (pos 0)) (negative_zeros k)

-- place k of an element is its inner product with X^k
dot_place : (k : ℕ) (v : List ℤ) (r : ℕ) → dot (replicate k (pos 0) ++ pos 1 ∷ replicate r (pos 0)) v ≡ get_or v k (pos 0)
unfolding dot
dot_place zero [] r = refl
dot_place zero (x ∷ v) r = rw (dot_zeros r v, +ℤ_idr (pos 1 *ℤ x), one_*ℤ x)
dot_place (suc k) [] r = refl
dot_place (suc k) (x ∷ v) r = rw (zero-*ℤ x, dot_place k v r) (+ℤ_idl (get_or v k (pos 0)))

pub dot_power : (k m : ℕ) (v : List ℤ) → k ≤ m → dot (powered k (constant (suc m) (pos 1))) v ≡ get_or v k (pos 0)
dot_power k m v h = ap (λ l. dot l v) (powered_constant k m (pos 1) h) ∙ dot_place k v (m - k)

-- ---- X^k times an element, on elements
unfoldable pub turns : {m : ℕ} → ℕ → El m → El m
turns k a = el (powered k a.list) (length_powered k a.list ∙ a.size)

pub turns_zero : {m : ℕ} (a : El m) → turns 0 a ≡ a
unfolding turns
turns_zero a = same _ _ (powered_zero a.list)

pub turns_suc : {m : ℕ} (k : ℕ) (a : El m) → turns (suc k) a ≡ turn (turns k a)
unfolding turns turn
turns_suc k a = same _ _ (powered_suc k a.list)

pub turns_linear : {m : ℕ} (k : ℕ) → Linear (turns {m = m} k)
turns_linear zero = record { of_sum = λ a b. rw (turns_zero (a ⊕ b), turns_zero a, turns_zero b); of_multiple = λ c a. rw (turns_zero (c ∙∙ a), turns_zero a) }
turns_linear (suc k) = record {
  of_sum = λ a b. turns_suc k (a ⊕ b) ∙ ap turn ((turns_linear k).of_sum a b) ∙ turn_linear.of_sum (turns k a) (turns k b) ∙ sym (rw (turns_suc k a, turns_suc k b));
  of_multiple = λ c a. turns_suc k (c ∙∙ a) ∙ ap turn ((turns_linear k).of_multiple c a) ∙ turn_linear.of_multiple c (turns k a) ∙ sym (rw (turns_suc k a));
}

-- what commutes with turning commutes with turning k times
pub turns_pass : {m : ℕ} (S : El m → El m) → ((v : El m) → S (turn v) ≡ turn (S v)) → (k : ℕ) (v : El m) → S (turns k v) ≡ turns k (S v)
turns_pass S h zero v = rw (turns_zero v, turns_zero (S v))
turns_pass S h (suc k) v = ap S (turns_suc k v) ∙ h (turns k v) ∙ ap turn (turns_pass S h k v) ∙ sym (turns_suc k (S v))

-- ---- an element is the act of its numbers on 1
scaled_zeros : (c : ℤ) (n : ℕ) → scaled c (replicate n (pos 0)) ≡ replicate n (pos 0)
scaled_zeros c zero = refl
scaled_zeros c (suc n) = rw (*ℤ-zero c, scaled_zeros c n)

added : (m : ℕ) (x : ℤ) (r : List ℤ) → length r ≡ m → sum (scaled x (constant (suc m) (pos 1))) (pos 0 ∷ r) ≡ x ∷ r
added m x r h =
    rw (
      constant_is m (pos 1),
      scaled_zeros x m,
      sum_cons (x *ℤ pos 1) (pos 0) (replicate m (pos 0)) r,
      *ℤ_one x,
      +ℤ_idr x,
      sum_comm (replicate m (pos 0)) r,
      sum_zeros r m h,
    )

act_list : (m : ℕ) (a : List ℤ) → length a ≤ suc m → (act (turn {m = m}) a 𝟏).list ≡ a ++ replicate (suc m - length a) (pos 0)
unfolding act 𝟎 ◌⊕◌ ◌∙∙◌ 𝟏 turn
act_list m [] h = let e : suc m ≡ suc m - 0 = omega arith in ap (λ i. replicate i (pos 0)) e
act_list m (x ∷ a) h =
    let e : suc m - length a ≡ (m - length a) + 1 = omega arith in
    let below : turned 1 (act (turn {m = m}) a 𝟏).list ≡ pos 0 ∷ a ++ replicate (m - length a) (pos 0) =
    ap (turned 1) (act_list m a (omega arith) ∙ ap (λ i. a ++ replicate i (pos 0)) e
    ∙ ap (λ (l : List ℤ). a ++ l) (sym (replicate_more (m - length a) (pos 0))) ∙ sym (append_assoc a (replicate (m - length a) (pos 0)) (pos 0 ∷ [])))
    ∙ turn_push (a ++ replicate (m - length a) (pos 0)) (pos 0) in
    let long : length (a ++ replicate (m - length a) (pos 0)) ≡ m =
    length-append a (replicate (m - length a) (pos 0)) ∙ rw (length-replicate (m - length a) (pos 0)) (omega arith) in
    let last : m - length a ≡ suc m - suc (length a) = omega arith in
    ap (sum (scaled x (constant (suc m) (pos 1)))) below ∙ added m x (a ++ replicate (m - length a) (pos 0)) long
    ∙ ap {B = List ℤ} (λ i. x ∷ a ++ replicate i (pos 0)) last

pub act_one : {m : ℕ} (a : El m) → act turn a.list 𝟏 ≡ a
act_one {m} a =
    let none : suc m - length a.list ≡ 0 = omega (arith, a.size) in
    same _ _ (act_list m a.list (omega (arith, a.size)) ∙ ap (λ i. a.list ++ replicate i (pos 0)) none ∙ append-nil a.list)

-- place k of an element
pub inner_power : {m : ℕ} (k : ℕ) (v : El m) → k ≤ m → inner (turns k 𝟏) v ≡ get_or v.list k (pos 0)
unfolding inner turns 𝟏
inner_power {m} k v h = dot_power k m v.list h

reverse_zeros : (n : ℕ) → reverse (replicate n (pos 0)) ≡ replicate n (pos 0)
reverse_zeros zero = refl
reverse_zeros (suc n) =
    reverse_cons (pos 0) (replicate n (pos 0)) ∙ ap (λ (l : List ℤ). l ++ pos 0 ∷ []) (reverse_zeros n) ∙ replicate_more n (pos 0)
    ∙ ap (λ i. replicate i (pos 0)) (add-one n)

pub star_one : {m : ℕ} → star 𝟏 ≡ 𝟏 {m = m}
unfolding star 𝟏
star_one {m} = same _ _ (rw (constant_is m (pos 1), adjoint_cons (pos 1) (replicate m (pos 0)), reverse_zeros m, negative_zeros m))
