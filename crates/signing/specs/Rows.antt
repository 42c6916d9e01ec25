-- Rows of two elements times a pair. Assumes nothing.
use Rattle.std.specs.Prelude.{◌≡◌, ℕ, ◌≤◌, Bool, true, cond, List, map, length, ℤ}
use Rattle.std.specs.List.{range_with_len}
use Rattle.ring.specs.Elements.{product, sum, difference, negative}
use Rattle.ring.specs.Kinds.{rest, bit_value}
use Rattle.ring.specs.declared.kind.Bit.{Bit}
use Rattle.scheme.specs.Hashes.{hash_bit}
use Rattle.scheme.specs.Keys.{all_within, key_limit}
use Rattle.scheme.specs.Pairs.{half}

-- the bits are the numbers modulo 2
abbrev pub BitsOf : List Bit → List ℤ → Type 0
BitsOf bits numbers = map bit_value bits ≡ map (rest 2) numbers

-- a·x + b·y
unfoldable pub joined : List ℤ → List ℤ → List ℤ → List ℤ → List ℤ
joined a b x y = sum (product a x) (product b y)

-- a·x − b·y
unfoldable pub apart : List ℤ → List ℤ → List ℤ → List ℤ → List ℤ
apart a b x y = difference (product a x) (product b y)

-- the largest number of a sample that is within its bound, in size: 143² is above 20,243
abbrev pub sample_limit : ℕ
sample_limit = 142

-- two elements of a key and the two of a sample within its bound
pub record SmallRow (a b x y : List ℤ) : Type 0 where
  pub a_small : all_within key_limit a ≡ true
  pub b_small : all_within key_limit b ≡ true
  pub x_small : all_within sample_limit x ≡ true
  pub y_small : all_within sample_limit y ≡ true
  pub few : length a ≤ 1024
  pub same : length b ≡ length a

-- half of a signature: (h − v) / 2 for the bits of a hash from a place on, where v may change sign
unfoldable pub half_from : List ℕ → ℕ → Bool → List ℤ → List ℤ
half_from hash from changed v = map half (difference (map (hash_bit hash) (range_with_len from (length v))) (cond changed (negative v) v))
