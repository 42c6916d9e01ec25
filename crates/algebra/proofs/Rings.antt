-- The laws of the ring of elements, as rules for `simp`.
use Rattle.std.proofs.Common.{◌≡◌, ℕ, zero, suc, ◌+◌, ◌*◌, [], neg_ℤ, sym, refl, ap, ◌∙◌, append-nil, suc-add, zero-add, arith}
use Rattle.ring.specs.Elements.{negative}
use lib.IntN.{neg_ℤ-neg_ℤ}
use Rattle.algebra.proofs.Elements.{El, same, of_zero, ◌⊕◌, ⊖, 𝟎, 𝟏, turn, back, inner, star, ⊕_comm, ⊕_assoc, ⊕_zero, zero_⊕, ⊕_neg, ⊖_⊖, ⊖_sum, inner_neg, inner_comm}
use Rattle.algebra.proofs.Turns.{turn_linear, turn_back, back_turn, inner_turn}
use Rattle.algebra.proofs.Adjoints.{star_turn, star_linear}
use Rattle.algebra.proofs.Acts.{act, carries, act_linear}
use Rattle.algebra.proofs.Powers.{turns, turns_zero, turns_suc, turns_pass, powered_split}
use Rattle.algebra.proofs.Products.{◌⊗◌, ⊗_comm, ⊗_assoc, ⊗_left_comm, ⊗_sum, sum_⊗, ⊗_one, one_⊗, product_act}

module _ {m : ℕ} where
  pub ⊕_left_comm : (a b c : El m) → a ⊕ (b ⊕ c) ≡ b ⊕ (a ⊕ c)
  ⊕_left_comm a b c = sym (⊕_assoc a b c) ∙ ap (λ t. t ⊕ c) (⊕_comm a b) ∙ ⊕_assoc b a c

  pub ⊕_neg_left : (a b : El m) → a ⊕ (⊖ a ⊕ b) ≡ b
  ⊕_neg_left a b = sym (⊕_assoc a (⊖ a) b) ∙ ap (λ t. t ⊕ b) (⊕_neg a) ∙ zero_⊕ b

  pub neg_⊕_left : (a b : El m) → ⊖ a ⊕ (a ⊕ b) ≡ b
  neg_⊕_left a b = ap (λ t. ⊖ a ⊕ (t ⊕ b)) (sym (⊖_⊖ a)) ∙ ⊕_neg_left (⊖ a) b

  -- what is added to a to give 0 is its negative
  pub negative_only : (a b : El m) → a ⊕ b ≡ 𝟎 → b ≡ ⊖ a
  negative_only a b e = sym (neg_⊕_left a b) ∙ ap (λ t. ⊖ a ⊕ t) e ∙ ⊕_zero (⊖ a)

  pub ⊗_zero : (a : El m) → a ⊗ 𝟎 ≡ 𝟎
  ⊗_zero a = product_act a 𝟎 ∙ of_zero (act turn a.list) (act_linear turn turn_linear a.list)

  pub zero_⊗ : (a : El m) → 𝟎 ⊗ a ≡ 𝟎
  zero_⊗ a = ⊗_comm 𝟎 a ∙ ⊗_zero a

  pub ⊗_neg : (a b : El m) → a ⊗ ⊖ b ≡ ⊖ (a ⊗ b)
  ⊗_neg a b = negative_only (a ⊗ b) (a ⊗ ⊖ b) (sym (⊗_sum a b (⊖ b)) ∙ ap (λ t. a ⊗ t) (⊕_neg b) ∙ ⊗_zero a)

  pub neg_⊗ : (a b : El m) → ⊖ a ⊗ b ≡ ⊖ (a ⊗ b)
  neg_⊗ a b = ⊗_comm (⊖ a) b ∙ ⊗_neg b a ∙ ap ⊖ (⊗_comm b a)

  pub neg_zero : ⊖ 𝟎 ≡ 𝟎 {m = m}
  neg_zero = sym (zero_⊕ (⊖ 𝟎)) ∙ ⊕_neg 𝟎

  pub star_sum : (a b : El m) → star (a ⊕ b) ≡ star a ⊕ star b
  star_sum a b = star_linear.of_sum a b

  pub star_neg : (a : El m) → star (⊖ a) ≡ ⊖ (star a)
  star_neg a = negative_only (star a) (star (⊖ a)) (sym (star_sum a (⊖ a)) ∙ ap star (⊕_neg a) ∙ of_zero star star_linear)

  -- ---- powers of X
  ⊗_turn : (a b : El m) → a ⊗ turn b ≡ turn (a ⊗ b)
  ⊗_turn a b = rw (product_act a (turn b), product_act a b) (sym (carries turn turn turn turn_linear (λ w. refl) a.list b))

  back_⊗_turn : (a b : El m) → back a ⊗ turn b ≡ a ⊗ b
  back_⊗_turn a b = ⊗_turn (back a) b ∙ ap turn (⊗_comm (back a) b) ∙ sym (⊗_turn b (back a)) ∙ ap (λ t. b ⊗ t) (turn_back a) ∙ ⊗_comm b a

  pub ⊗_turns : (k : ℕ) (a b : El m) → a ⊗ turns k b ≡ turns k (a ⊗ b)
  ⊗_turns k a b = turns_pass (λ v. a ⊗ v) (⊗_turn a) k b

  pub turns_⊗ : (k : ℕ) (a b : El m) → turns k a ⊗ b ≡ turns k (a ⊗ b)
  turns_⊗ k a b = ⊗_comm (turns k a) b ∙ ⊗_turns k b a ∙ ap (turns k) (⊗_comm b a)

  pub turns_is : (k : ℕ) (a : El m) → turns k a ≡ turns k 𝟏 ⊗ a
  turns_is k a = sym (turns_⊗ k 𝟏 a ∙ ap (turns k) (one_⊗ a))

  pub turns_add : (j k : ℕ) (a : El m) → turns (j + k) a ≡ turns j (turns k a)
  turns_add zero k a = ap (λ i. turns i a) (zero-add k) ∙ sym (turns_zero (turns k a))
  turns_add (suc j) k a = ap (λ i. turns i a) (suc-add j k) ∙ turns_suc (j + k) a ∙ ap turn (turns_add j k a) ∙ sym (turns_suc j (turns k a))

  -- X^n = −1
  pub turns_size : (a : El m) → turns (suc m) a ≡ ⊖ a
  unfolding turns ⊖
  turns_size a = same _ _ (powered_split (suc m) [] a.list a.size ∙ append-nil (negative a.list))

  -- X^(2n) = 1
  pub turns_round : (a : El m) → turns (2 * suc m) a ≡ a
  turns_round a =
      let e : 2 * suc m ≡ suc m + suc m = omega arith in
      ap (λ i. turns i a) e ∙ turns_add (suc m) (suc m) a ∙ turns_size (turns (suc m) a) ∙ ap ⊖ (turns_size a) ∙ ⊖_⊖ a

  pub turns_neg : (k : ℕ) (a : El m) → turns k (⊖ a) ≡ ⊖ (turns k a)
  turns_neg k a = rw (turns_is k (⊖ a), turns_is k a) (⊗_neg (turns k 𝟏) a)

  pub star_turns_⊗ : (k : ℕ) (a b : El m) → star (turns k a) ⊗ turns k b ≡ star a ⊗ b
  star_turns_⊗ zero a b = rw (turns_zero a, turns_zero b)
  star_turns_⊗ (suc k) a b =
      rw (turns_suc k a, turns_suc k b, star_turn (turns k a)) (back_⊗_turn (star (turns k a)) (turns k b) ∙ star_turns_⊗ k a b)

  pub inner_turns : (k : ℕ) (a b : El m) → inner (turns k a) (turns k b) ≡ inner a b
  inner_turns zero a b = rw (turns_zero a, turns_zero b)
  inner_turns (suc k) a b =
      rw (turns_suc k a, turns_suc k b, inner_turn (turns k a) (turn (turns k b)), back_turn (turns k b)) (inner_turns k a b)

  pub inner_neg_neg : (a b : El m) → inner (⊖ a) (⊖ b) ≡ inner a b
  inner_neg_neg a b = inner_neg (⊖ a) b ∙ ap neg_ℤ (inner_comm (⊖ a) b ∙ inner_neg b a ∙ ap neg_ℤ (inner_comm b a)) ∙ neg_ℤ-neg_ℤ (inner a b)

pub ruleset ring = (
  ⊗_assoc,
  ⊗_comm,
  ⊗_left_comm,
  ⊗_sum,
  sum_⊗,
  ⊗_neg,
  neg_⊗,
  ⊗_zero,
  zero_⊗,
  ⊗_one,
  one_⊗,
  ⊕_assoc,
  ⊕_comm,
  ⊕_left_comm,
  ⊕_zero,
  zero_⊕,
  ⊖_sum,
  ⊖_⊖,
  neg_zero,
)
