-- Decimal numbers, as `parse` reads them.
use Rattle.std.proofs.Common.{◌≡◌, ◌≢◌, ℕ, ◌^◌, ◌<◌, true, cond, nat_le, List, [], ◌∷◌, length, get_or, Some, None, Ok, Err, Option, Result, MatchResult, rules, refl, arith}
use Rattle.std.specs.Char.{is_ascii_digit}
use Rattle.std.specs.Str.Parse.{ParsesUnsigned}
use Rattle.std.proofs.lemmas.Str.Parse.{IsNumeralModel, numerals_by_fold, parse_plain}
use Rattle.std.proofs.lemmas.Bool.Decides.{nat_tests}
use Rattle.script.specs.Hexadecimal.{every}
use Rattle.script.specs.Operands.{followed, number_in}

decimals : IsNumeralModel (λ (ds : List ℕ). every is_ascii_digit ds ≡ true) (followed 0)
unfolding every followed
decimals = numerals_by_fold _ (search rules) followed (search rules)

module _ (most : ℕ) (text : List ℕ) where
  -- digits only, at least one, of a number that fits
  abbrev pub IsNumber : Type 0
  IsNumber = (every is_ascii_digit text ≡ true) × (0 < length text) × (followed 0 text < 2 ^ 64)

  -- a plus is no digit
  pub number_plus : get_or text 0 0 ≡ 43 → number_in most text ≡ None
  unfolding number_in every
  number_plus h = go text h
    where
      go : (text : List ℕ) → get_or text 0 0 ≡ 43 → number_in most text ≡ None
      go [] h = refl
      go (c ∷ digits) h = rw h (grind (arith, nat_tests))

  pub number_parsed : {E : Type 0} (r : Result ℕ E) (out : Option ℕ) → ParsesUnsigned 64 10 text r → get_or text 0 0 ≢ 43 → most < 2 ^ 64
      → MatchResult r (λ n. out ≡ cond (nat_le n most) (Some n) None) (λ _. out ≡ None) → out ≡ number_in most text
  unfolding number_in
  number_parsed (Ok n) out parsed plain small is =
      let read : IsNumber × (n ≡ followed 0 text) = parse_plain decimals {E = Unit {0}} 64 text (Ok n) parsed plain in
      grind (arith, nat_tests)
  number_parsed (Err e) out parsed plain small is =
      let read : ¬ IsNumber = parse_plain decimals 64 text (Err e) parsed plain in
      grind (arith, nat_tests)
