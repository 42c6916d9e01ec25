-- Coefficients of f·G − g·F, in words.
use Rattle.std.proofs.Common.{◌≡◌, ℕ, zero, suc, ◌^◌, ◌<◌, ◌≤◌, Bool, true, false, cond, not, eqb, List, length, get_or, ℤ, pos, ◌-ℤ◌, neg_ℤ, nat_abs, sym, refl, ap, ◌∙◌, arith, w64, SFits, to_z, of_z}
use mir.Syntax.{Width}
use mir.Val.{bool_byte}
use Rattle.std.specs.List.{prefix_len}
use Rattle.std.proofs.lemmas.Int.{to_z-of_z}
use Rattle.std.proofs.lemmas.Bool.{ne_eqb, eq-eqb, eqb-true, false≢true}
use Rattle.ring.specs.Elements.{coefficient, product, difference, constant}
use Rattle.ring.specs.Kinds.{rest, values, word_value}
use Rattle.ring.proofs.Exact.{exact_coefficient}
use Rattle.ring.proofs.Places.{product_at, length_product, difference_at, length_difference, length_constant, constant_first, constant_other}
use Rattle.ring.proofs.Sizes.{abs_sum, abs_neg, coefficient_size, fits_word}
use Rattle.scheme.specs.Keys.{basis, determinant, key_limit}
use Rattle.scheme.specs.Pairs.{is_zero}
use Rattle.key.specs.Loading.{excess}
use Rattle.key.specs.Words.{SmallWords, FourWords}
use Rattle.key.proofs.Differences.{alike, unlike, same_from}
use Rattle.key.proofs.Ranges.{bounded_from}

-- a coefficient of two such elements is at most 1,024 · 127² in size, and words show it
coefficient_small : (a b : List ℤ) (k : ℕ) → SmallWords a → SmallWords b → nat_abs (coefficient a b k) ≤ 16516096
coefficient_small a b k wa wb =
    omega (arith, coefficient_size key_limit key_limit a b k (bounded_from key_limit a wa.small) (bounded_from key_limit b wb.small), wa.few)

pub word_coefficient : (a b : List ℤ) (k : ℕ) (r : ℤ) → SmallWords a → SmallWords b → SFits w64 r → word_value r ≡ rest (2 ^ 64) (coefficient (values word_value a) (values word_value b) k) → r ≡ coefficient a b k
word_coefficient a b k r wa wb fits e =
    exact_coefficient key_limit key_limit a b k r (bounded_from key_limit a wa.small) (bounded_from key_limit b wb.small) (omega (arith, wa.few)) fits e

-- the difference of two such words
module _ (f g F G : List ℤ) (k : ℕ) (r s : ℤ) (words : FourWords f g F G) (h : k < length f) (r-fits : SFits w64 r) (s-fits : SFits w64 s)
    (r-is : word_value r ≡ rest (2 ^ 64) (coefficient (values word_value f) (values word_value G) k))
    (s-is : word_value s ≡ rest (2 ^ 64) (coefficient (values word_value g) (values word_value F) k)) where
  r_exact : to_z w64 (of_z w64 r) ≡ coefficient f G k
  r_exact = to_z-of_z w64 r r-fits ∙ word_coefficient f G k r words.f_words words.G_words r-fits r-is

  s_exact : to_z w64 (of_z w64 s) ≡ coefficient g F k
  s_exact = to_z-of_z w64 s s-fits ∙ word_coefficient g F k s words.g_words words.F_words s-fits s-is

  pub minus_fits : SFits w64 (to_z w64 (of_z w64 r) -ℤ to_z w64 (of_z w64 s))
  minus_fits = rw (r_exact, s_exact)
      (fits_word (coefficient f G k -ℤ coefficient g F k)
      (omega (arith, abs_sum (coefficient f G k) (neg_ℤ (coefficient g F k)), abs_neg (coefficient g F k), coefficient_small f G k words.f_words words.G_words, coefficient_small g F k words.g_words words.F_words)))

  pub minus_is : to_z w64 (of_z w64 (to_z w64 (of_z w64 r) -ℤ to_z w64 (of_z w64 s))) ≡ get_or (determinant (basis f g F G)) k (pos 0)
  unfolding determinant
  minus_is =
      let long-fG = length_product f G in
      let long-gF = length_product g F in
      let same = words.g_long in
      to_z-of_z w64 (to_z w64 (of_z w64 r) -ℤ to_z w64 (of_z w64 s)) minus_fits
      ∙ rw (r_exact, s_exact)
      (sym (difference_at (product f G) (product g F) k (omega arith) (omega arith) ∙ rw (product_at f G k h, product_at g F k (omega arith))))

one_byte : (b : Bool) → pos (bool_byte b) ≡ cond b (pos 1) (pos 0)
one_byte true = refl
one_byte false = refl

same_bits : (w : Width) (x y : ℤ) → SFits w x → SFits w y → of_z w x ≡ of_z w y → x ≡ y
same_bits w x y h k e = sym (to_z-of_z w x h) ∙ ap (to_z w) e ∙ to_z-of_z w y k

-- the coefficients of f·G − g·F − 1
module _ (f g F G : List ℤ) (words : FourWords f g F G) where
  pub length_determinant : length (determinant (basis f g F G)) ≡ length f
  unfolding determinant
  length_determinant =
      let long-fG = length_product f G in
      let long-gF = length_product g F in
      let same = words.g_long in
      length_difference (product f G) (product g F) (omega arith) ∙ long-fG

  pub length_excess : length (excess (length f) (basis f g F G)) ≡ length f
  unfolding excess
  length_excess =
      let long = length_determinant in
      length_difference (determinant (basis f g F G)) (constant (length f) (pos 1)) (long ∙ sym (length_constant (length f) (pos 1))) ∙ long

  constant_at : (k : ℕ) → k < length f → get_or (constant (length f) (pos 1)) k (pos 0) ≡ cond (eqb k 0) (pos 1) (pos 0)
  constant_at zero h = constant_first (length f) (pos 1) h
  constant_at (suc k) h = constant_other (length f) (pos 1) (suc k) (omega arith) h ∙ sym (ap (λ t. cond t (pos 1) (pos 0)) (ne_eqb (suc k) 0 (λ e. omega arith)))

  one_long : length (determinant (basis f g F G)) ≡ length (constant (length f) (pos 1))
  one_long = length_determinant ∙ sym (length_constant (length f) (pos 1))

  -- coefficient k, and that of 1, as a test has them
  pub wrong_is : (k : ℕ) (d one : ℤ) → k < length f → SFits w64 d → SFits w64 one → d ≡ get_or (determinant (basis f g F G)) k (pos 0) → one ≡ pos (bool_byte (eqb k 0))
      → not (eqb (of_z w64 d) (of_z w64 one)) ≡ not (is_zero (get_or (excess (length f) (basis f g F G)) k (pos 0)))
  unfolding excess
  wrong_is k d one h d-fits one-fits d-is one-is = ap not (go (eqb (of_z w64 d) (of_z w64 one)) refl)
    where
      at : one ≡ get_or (constant (length f) (pos 1)) k (pos 0)
      at = one-is ∙ one_byte (eqb k 0) ∙ sym (constant_at k h)

      go : (b : Bool) → eqb (of_z w64 d) (of_z w64 one) ≡ b → b ≡ is_zero (get_or (difference (determinant (basis f g F G)) (constant (length f) (pos 1))) k (pos 0))
      go true e = sym (alike (determinant (basis f g F G)) (constant (length f) (pos 1)) one_long k (omega (arith, length_determinant)) (sym d-is ∙ same_bits w64 d one d-fits one-fits (eqb-true _ _ e) ∙ at))
      go false e = sym (unlike (determinant (basis f g F G)) (constant (length f) (pos 1)) one_long k (omega (arith, length_determinant)) (λ same. false≢true (sym e ∙ eq-eqb _ _ (ap (of_z w64) (d-is ∙ same ∙ sym at)))))

  -- where no coefficient is wrong, the determinant is one
  pub unit_from : prefix_len is_zero (excess (length f) (basis f g F G)) ≡ length f → determinant (basis f g F G) ≡ constant (length f) (pos 1)
  unfolding excess
  unit_from e = same_from (determinant (basis f g F G)) (constant (length f) (pos 1)) one_long (e ∙ sym length_determinant)
