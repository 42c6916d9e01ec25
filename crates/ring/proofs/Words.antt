-- Words: the residues of wrapped results, and the word that fits is the integer itself.
use Rattle.std.specs.Prelude.{◌≡◌, ℕ, suc, ◌-◌, ◌^◌, ◌<◌, Bool, true, false, ℤ, pos, negsuc, ◌+ℤ◌, ◌*ℤ◌, neg_ℤ, FitsSigned, nat_lt, refl}
use Rattle.std.proofs.Common.{sym, ap, ◌∙◌, arith}
use mir.Val.{to_z, sel}
use Rattle.std.specs.Int.{int_wrap, w64}
use Rattle.std.proofs.lemmas.Int.{int_wrap_fits}
use Rattle.ring.specs.Kinds.{rest}
use Rattle.ring.specs.Below.{rest_below, word_positive}
use Rattle.ring.proofs.Residues.{Differ, differ_same, rest_rest, sum_of, negative_of, product_of}

read_differs : (n : ℕ) → n < 2 ^ 64 → Differ (2 ^ 64) (to_z w64 n) (pos n)
read_differs n h = go (nat_lt n (2 ^ 63))
  where
    go : (b : Bool) → Differ (2 ^ 64) (sel b (pos n) (negsuc (2 ^ 64 - suc n))) (pos n)
    go true = (0, 0, omega arith)
    go false = (1, 0, omega arith)

-- wrapping does not change the residue
pub rest_wrapped : (z : ℤ) → rest (2 ^ 64) (int_wrap w64 z) ≡ rest (2 ^ 64) z
unfolding int_wrap rest
rest_wrapped z =
    differ_same (2 ^ 64) (to_z w64 (rest (2 ^ 64) z)) (pos (rest (2 ^ 64) z)) word_positive (read_differs (rest (2 ^ 64) z) (rest_below (2 ^ 64) z word_positive))
    ∙ rest_rest (2 ^ 64) z word_positive

-- two words with one residue are equal
pub same_word : (x y : ℤ) → FitsSigned w64 x → FitsSigned w64 y → rest (2 ^ 64) x ≡ rest (2 ^ 64) y → x ≡ y
unfolding int_wrap rest
same_word x y h k e = sym (int_wrap_fits w64 x h) ∙ ap (to_z w64) e ∙ int_wrap_fits w64 y k

pub word_plus : (a b : ℤ) → rest (2 ^ 64) (int_wrap w64 (a +ℤ b)) ≡ rest (2 ^ 64) (pos (rest (2 ^ 64) a) +ℤ pos (rest (2 ^ 64) b))
word_plus a b = rest_wrapped (a +ℤ b) ∙ sym (sum_of (2 ^ 64) _ _ _ a b word_positive refl refl refl)

pub word_negated : (a : ℤ) → rest (2 ^ 64) (int_wrap w64 (neg_ℤ a)) ≡ rest (2 ^ 64) (neg_ℤ (pos (rest (2 ^ 64) a)))
word_negated a = rest_wrapped (neg_ℤ a) ∙ sym (negative_of (2 ^ 64) _ _ a word_positive refl refl)

pub word_times : (a b : ℤ) → rest (2 ^ 64) (int_wrap w64 (a *ℤ b)) ≡ rest (2 ^ 64) (pos (rest (2 ^ 64) a) *ℤ pos (rest (2 ^ 64) b))
word_times a b = rest_wrapped (a *ℤ b) ∙ sym (product_of (2 ^ 64) _ _ _ a b word_positive refl refl refl)
