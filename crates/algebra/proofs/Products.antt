-- The product of elements is commutative and associative, with one and adjoint.
use Rattle.std.proofs.Common.{◌≡◌, ℕ, ◌<◌, ◌≤◌, length, get_or, pos, sym, refl, ap, ◌∙◌, arith}
use Rattle.std.proofs.lemmas.List.{ext_get_or}
use Rattle.std.proofs.lemmas.List.FromFn.{get_or-map-range_with_len}
use Rattle.ring.specs.Elements.{coefficient, product}
use Rattle.algebra.proofs.Sizes.{length_product}
use Rattle.algebra.proofs.Elements.{El, el, same, ◌⊕◌, 𝟏, turn, back, inner, star, inner_comm}
use Rattle.algebra.proofs.Turns.{turn_linear, back_linear}
use Rattle.algebra.proofs.Adjoints.{star_linear, star_turn}
use Rattle.algebra.proofs.Acts.{act, carries, act_linear, acts_commute, inner_act, turn_back_swap}
use Rattle.algebra.proofs.Powers.{turns, turns_pass, coefficient_is, act_one, inner_power, star_one}

module _ {m : ℕ} where
  infixl 70 ◌⊗◌
  unfoldable pub ◌⊗◌ : El m → El m → El m
  a ⊗ b = el (product a.list b.list) (length_product a.list b.list ∙ a.size)

  acts_swap : (a b : El m) → act turn a.list b ≡ act turn b.list a
  acts_swap a b =
      ap (act turn a.list) (sym (act_one b)) ∙ acts_commute turn turn turn_linear turn_linear (λ v. refl) a.list b.list 𝟏
      ∙ ap (act turn b.list) (act_one a)

  -- the adjoint is the act of 1/X on 1
  star_act : (a : El m) → star a ≡ act back a.list 𝟏
  star_act a = ap star (sym (act_one a)) ∙ carries star turn back star_linear star_turn a.list 𝟏 ∙ ap (act back a.list) star_one

  place : (a b : El m) (k : ℕ) → k ≤ m → get_or (act turn a.list b).list k (pos 0) ≡ inner a (turns k (star b))
  place a b k h =
      sym (inner_power k (act turn a.list b) h)
      ∙ ap (inner (turns k 𝟏)) (acts_swap a b)
      ∙ inner_comm (turns k 𝟏) (act turn b.list a)
      ∙ inner_act b.list a (turns k 𝟏)
      ∙ ap (inner a) (turns_pass (act back b.list) (λ v. sym (carries turn back back turn_linear turn_back_swap b.list v)) k 𝟏
      ∙ ap (turns k) (sym (star_act b)))

  -- the product by sums is the act
  pub product_act : (a b : El m) → a ⊗ b ≡ act turn a.list b
  unfolding ◌⊗◌ product inner turns star
  product_act a b =
      same _ _ (ext_get_or (pos 0) (product a.list b.list) (act turn a.list b).list
      (length_product a.list b.list ∙ a.size ∙ sym (act turn a.list b).size)
      (λ i l. get_or-map-range_with_len (coefficient a.list b.list) 0 (length a.list) i i (pos 0) (below i l) (omega arith)
      ∙ coefficient_is a.list b.list i (a.size ∙ sym b.size) (omega (arith, below i l, a.size, b.size))
      ∙ sym (place a b i (omega (arith, below i l, a.size)))))
    where
      below : (i : ℕ) → i < length (product a.list b.list) → i < length a.list
      below i l = omega (arith, length_product a.list b.list)

  pub ⊗_comm : (a b : El m) → a ⊗ b ≡ b ⊗ a
  ⊗_comm a b = product_act a b ∙ acts_swap a b ∙ sym (product_act b a)

  pub ⊗_left_comm : (a b c : El m) → a ⊗ (b ⊗ c) ≡ b ⊗ (a ⊗ c)
  ⊗_left_comm a b c =
      rw (product_act a (b ⊗ c), product_act b (a ⊗ c), product_act b c, product_act a c)
      (acts_commute turn turn turn_linear turn_linear (λ v. refl) a.list b.list c)

  pub ⊗_assoc : (a b c : El m) → (a ⊗ b) ⊗ c ≡ a ⊗ (b ⊗ c)
  ⊗_assoc a b c = ⊗_comm (a ⊗ b) c ∙ ⊗_left_comm c a b ∙ ap (λ t. a ⊗ t) (⊗_comm c b)

  pub ⊗_sum : (a b c : El m) → a ⊗ (b ⊕ c) ≡ a ⊗ b ⊕ a ⊗ c
  ⊗_sum a b c = rw (product_act a (b ⊕ c), product_act a b, product_act a c) ((act_linear turn turn_linear a.list).of_sum b c)

  pub sum_⊗ : (a b c : El m) → (a ⊕ b) ⊗ c ≡ a ⊗ c ⊕ b ⊗ c
  sum_⊗ a b c = ⊗_comm (a ⊕ b) c ∙ ⊗_sum c a b ∙ rw (⊗_comm c a, ⊗_comm c b)

  pub ⊗_one : (a : El m) → a ⊗ 𝟏 ≡ a
  ⊗_one a = product_act a 𝟏 ∙ act_one a

  pub one_⊗ : (a : El m) → 𝟏 ⊗ a ≡ a
  one_⊗ a = ⊗_comm 𝟏 a ∙ ⊗_one a

  -- an act by 1/X is the product by the adjoint
  star_⊗ : (a b : El m) → act back a.list b ≡ star a ⊗ b
  star_⊗ a b =
      ap (act back a.list) (sym (act_one b))
      ∙ acts_commute back turn back_linear turn_linear (λ v. sym (turn_back_swap v)) a.list b.list 𝟏
      ∙ ap (act turn b.list) (sym (star_act a)) ∙ sym (product_act b (star a)) ∙ ⊗_comm b (star a)

  pub inner_⊗ : (a b c : El m) → inner (a ⊗ b) c ≡ inner b (star a ⊗ c)
  inner_⊗ a b c = ap (λ t. inner t c) (product_act a b) ∙ inner_act a.list b c ∙ ap (inner b) (star_⊗ a c)

  pub star_product : (a b : El m) → star (a ⊗ b) ≡ star a ⊗ star b
  star_product a b = ap star (product_act a b) ∙ carries star turn back star_linear star_turn a.list b ∙ star_⊗ a (star b)
