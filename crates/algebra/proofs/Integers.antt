-- Laws of the integers' sum and product, by their parts up and down.
use Rattle.std.proofs.Common.{◌≡◌, ◌*◌, ℤ, pos, ◌+ℤ◌, ◌*ℤ◌, neg_ℤ, refl, ap, ◌∙◌, arith}
use lib.IntN.{*ℤ_comm}
use borrow.Author.Differences.{up, down, same_in, sum_is_lem, neg_is, product_is}

pub *ℤ_assoc : (a b c : ℤ) → (a *ℤ b) *ℤ c ≡ a *ℤ (b *ℤ c)
*ℤ_assoc a b c =
    same_in _ _ (rw (
      (product_is (a *ℤ b) c).0,
      (product_is (a *ℤ b) c).1,
      (product_is a (b *ℤ c)).0,
      (product_is a (b *ℤ c)).1,
      (product_is a b).0,
      (product_is a b).1,
      (product_is b c).0,
      (product_is b c).1,
    ) (omega arith))

pub *ℤ_sum : (a b c : ℤ) → a *ℤ (b +ℤ c) ≡ a *ℤ b +ℤ a *ℤ c
*ℤ_sum a b c =
    same_in _ _ (omega (
      arith,
      product_is a (b +ℤ c),
      product_is a b,
      product_is a c,
      sum_is_lem (a *ℤ b) (a *ℤ c),
      ap (λ t. up a * t) (sum_is_lem b c),
      ap (λ t. down a * t) (sum_is_lem b c),
    ))

pub sum_*ℤ : (a b c : ℤ) → (a +ℤ b) *ℤ c ≡ a *ℤ c +ℤ b *ℤ c
sum_*ℤ a b c = *ℤ_comm (a +ℤ b) c ∙ *ℤ_sum c a b ∙ rw (*ℤ_comm c a, *ℤ_comm c b) refl

pub *ℤ_neg : (a b : ℤ) → a *ℤ neg_ℤ b ≡ neg_ℤ (a *ℤ b)
*ℤ_neg a b =
    same_in _ _ (rw (
      (product_is a (neg_ℤ b)).0,
      (product_is a (neg_ℤ b)).1,
      (neg_is (a *ℤ b)).0,
      (neg_is (a *ℤ b)).1,
      (product_is a b).0,
      (product_is a b).1,
      (neg_is b).0,
      (neg_is b).1,
    ) (omega arith))

pub neg_*ℤ : (a b : ℤ) → neg_ℤ a *ℤ b ≡ neg_ℤ (a *ℤ b)
neg_*ℤ a b = *ℤ_comm (neg_ℤ a) b ∙ *ℤ_neg b a ∙ ap neg_ℤ (*ℤ_comm b a)

pub +ℤ_swap : (a b c d : ℤ) → (a +ℤ b) +ℤ (c +ℤ d) ≡ (a +ℤ c) +ℤ (b +ℤ d)
+ℤ_swap a b c d =
    same_in _ _ (omega (arith, sum_is_lem (a +ℤ b) (c +ℤ d), sum_is_lem a b, sum_is_lem c d, sum_is_lem (a +ℤ c) (b +ℤ d), sum_is_lem a c, sum_is_lem b d))

pub *ℤ_one : (a : ℤ) → a *ℤ pos 1 ≡ a
*ℤ_one a = same_in _ _ (omega (arith, product_is a (pos 1)))

pub one_*ℤ : (a : ℤ) → pos 1 *ℤ a ≡ a
one_*ℤ a = *ℤ_comm (pos 1) a ∙ *ℤ_one a
