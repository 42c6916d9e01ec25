-- The laws of elements, as stated over lists.
use Rattle.std.proofs.Common.{◌≡◌, ℕ, zero, suc, ◌+◌, ◌-◌, ◌*◌, ◌<◌, ◌≤◌, List, length, get_or, take, drop, ℤ, pos, sym, refl, ap, ◌∙◌, arith, length-drop, take-append-drop}
use Rattle.ring.specs.Elements.{dot, product, negative, adjoint, turned, constant}
use Rattle.scheme.specs.Powers.{powered}
use Rattle.algebra.specs.Laws.{IntegerLaws, RingLaws, PowerLaws, AdjointLaws, ElementLaws}
use Rattle.algebra.proofs.Integers.{*ℤ_assoc, *ℤ_sum}
use Rattle.algebra.proofs.Sizes.{length_sum, length_negative, length_product, length_adjoint}
use Rattle.algebra.proofs.Elements.{El, el, ◌⊕◌, ⊖, 𝟎, 𝟏, inner, star, ⊕_comm, ⊕_assoc, ⊕_zero, ⊕_neg}
use Rattle.algebra.proofs.Adjoints.{star_star}
use Rattle.algebra.proofs.Powers.{turns, turns_zero, constant_is, powered_split, inner_power}
use Rattle.algebra.proofs.Products.{◌⊗◌, ⊗_comm, ⊗_assoc, ⊗_sum, ⊗_one, star_product, inner_⊗}
use Rattle.algebra.proofs.Rings.{⊗_neg, star_sum, turns_is, turns_add, turns_size, turns_round, ⊗_turns, star_turns_⊗}

abbrev pub listed : {m : ℕ} {a b : El m} → a ≡ b → a.list ≡ b.list
listed e = ap (λ t. t.list) e

pub zeros_are : (m : ℕ) → (𝟎 {m = m}).list ≡ constant (suc m) (pos 0)
unfolding 𝟎
zeros_are m = sym (constant_is m (pos 0))

pub integer_laws : IntegerLaws
integer_laws = record { product_assoc = *ℤ_assoc; product_sum = *ℤ_sum }

pub ring_laws : (n : ℕ) → 0 < n → RingLaws n
unfolding ◌⊕◌ ⊖ ◌⊗◌ 𝟏
ring_laws zero h = absurd (omega arith)
ring_laws (suc m) h = record {
  sum_size = λ a b p q. length_sum a b (suc m) p q;
  sum_comm = λ a b p q. listed (⊕_comm (el a p) (el b q));
  sum_assoc = λ a b c p q r. listed (⊕_assoc (el a p) (el b q) (el c r));
  sum_zero = λ a p. rw (← zeros_are m) (listed (⊕_zero (el a p)));
  negative_size = λ a p. length_negative a ∙ p;
  sum_negative = λ a p. listed (⊕_neg (el a p)) ∙ zeros_are m;
  product_size = λ a b p q. length_product a b ∙ p;
  product_comm = λ a b p q. listed (⊗_comm (el a p) (el b q));
  product_assoc = λ a b c p q r. listed (⊗_assoc (el a p) (el b q) (el c r));
  product_one = λ a p. listed (⊗_one (el a p));
  product_sum = λ a b c p q r. listed (⊗_sum (el a p) (el b q) (el c r));
  product_negative = λ a b p q. listed (⊗_neg (el a p) (el b q));
}

powered_turned : (n k : ℕ) (a : List ℤ) → length a ≡ n → k ≤ n → powered k a ≡ turned k a
unfolding turned
powered_turned n k a p h =
    let e : length (drop (length a - k) a) ≡ k = length-drop (length a - k) a ∙ omega arith in
    ap (powered k) (sym (take-append-drop (length a - k) a)) ∙ powered_split k (take (length a - k) a) (drop (length a - k) a) e ∙ unfold negative in refl

pub power_laws : (n : ℕ) → 0 < n → PowerLaws n
unfolding ⊖ ◌⊗◌ 𝟏 turns
power_laws zero h = absurd (omega arith)
power_laws (suc m) h = record {
  is_product = λ k a p. listed (turns_is k (el a p));
  is_turned = λ k a p l. powered_turned (suc m) k a p l;
  together = λ j k a p. listed (turns_add j k (el a p));
  half_way = λ a p. listed (turns_size (el a p));
  all_round = λ a p. listed (turns_round (el a p));
}

-- X^(2n − k) undoes X^k
pub turns_undone : {m : ℕ} (k : ℕ) (a : El m) → k ≤ 2 * suc m → turns (2 * suc m - k) (turns k a) ≡ a
turns_undone {m} k a h =
    let e : 2 * suc m - k + k ≡ 2 * suc m = omega arith in
    sym (turns_add (2 * suc m - k) k a) ∙ ap (λ i. turns i a) e ∙ turns_round a

pub star_turns : {m : ℕ} (k : ℕ) (a : El m) → k ≤ 2 * suc m → star (turns k a) ≡ turns (2 * suc m - k) (star a)
star_turns {m} k a h =
    sym (turns_undone k (star (turns k a)) h)
    ∙ ap (turns (2 * suc m - k)) (ap (turns k) (sym (⊗_one (star (turns k a)))) ∙ sym (⊗_turns k (star (turns k a)) 𝟏) ∙ star_turns_⊗ k a 𝟏 ∙ ⊗_one (star a))

pub adjoint_laws : (n : ℕ) → 0 < n → AdjointLaws n
unfolding ◌⊕◌ ◌⊗◌ star turns inner
adjoint_laws zero h = absurd (omega arith)
adjoint_laws (suc m) h =
    let place : (a b : List ℤ) → length a ≡ suc m → length b ≡ suc m → get_or (product (adjoint a) b) 0 (pos 0) ≡ dot a b =
    λ a b p q. sym (inner_power 0 (star (el a p) ⊗ el b q) (omega arith)) ∙ ap (λ t. inner t (star (el a p) ⊗ el b q)) (turns_zero 𝟏)
    ∙ sym (inner_⊗ (el a p) 𝟏 (el b q)) ∙ ap (λ t. inner t (el b q)) (⊗_one (el a p)) in
    record {
      size = λ a p. length_adjoint a ∙ p;
      twice = λ a p. listed (star_star (el a p));
      of_sum = λ a b p q. listed (star_sum (el a p) (el b q));
      of_product = λ a b p q. listed (star_product (el a p) (el b q));
      of_power = λ k a p l. listed (star_turns k (el a p) l);
      constant_of = place;
      constant_of_square = λ a p. place a a p p;
      moves = λ a b c p q r. inner_⊗ (el a p) (el b q) (el c r);
    }

pub element_laws : ElementLaws
element_laws = record { integers = integer_laws; elements = ring_laws; powers = power_laws; adjoints = adjoint_laws }
