-- Verification by halves: half of v, a row of the form times v. Assumes nothing.
use Rattle.std.specs.Prelude.{◌≡◌, ℕ, ◌≤◌, true, false, List, map, length, ℤ, Option, MatchOption}
use Rattle.std.specs.List.{range_with_len}
use Rattle.std.specs.Int.{int_wrap, w64}
use Rattle.ring.specs.Elements.{difference, product, sum}
use Rattle.scheme.specs.Hashes.{hash_bit}
use Rattle.scheme.specs.Keys.{all_within, form_limit}
use Rattle.scheme.specs.Pairs.{twice}
use Rattle.scheme.specs.Verdicts.{image_limit}

-- h − 2s over one half, whose bits of the hash begin at `start`
unfoldable pub half_point : ℕ → List ℕ → List ℤ → List ℤ
half_point start hash s = difference (map (hash_bit hash) (range_with_len start (length s))) (map twice s)

-- p·a + q·b
unfoldable pub row_image : List ℤ → List ℤ → List ℤ → List ℤ → List ℤ
row_image p q a b = sum (product p a) (product q b)

-- the integers that words show
unfoldable pub shown : List ℤ → List ℤ
shown words = map (int_wrap w64) words

-- the largest number of v in size, where s keeps its limit
abbrev pub point_limit : ℕ
point_limit = 1048575

-- half of v: at most 1,024 numbers
pub record PointWords (n : ℕ) (v : List ℤ) : Type 0 where
  pub few : n ≤ 1024
  pub long : length v ≡ n
  pub small : all_within point_limit v ≡ true

-- two elements of a form
pub record RowWords (n : ℕ) (p q : List ℤ) : Type 0 where
  pub p_long : length p ≡ n
  pub q_long : length q ≡ n
  pub p_small : all_within form_limit p ≡ true
  pub q_small : all_within form_limit q ≡ true

-- z, where every number of u keeps its limit; none where one does not
abbrev pub Summed : List ℤ → ℤ → Option ℤ → Type 0
Summed u z r = MatchOption r (all_within image_limit u ≡ false) (λ N. (all_within image_limit u ≡ true) × (N ≡ z))
