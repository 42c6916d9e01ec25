-- A hash as bits. Assumes nothing.
use Rattle.std.specs.Prelude.{ℕ, ◌/◌, ◌%◌, ◌^◌, List, map, ℤ, pos, slice_index}
use Rattle.std.specs.List.{range_with_len}
use Rattle.scheme.specs.Matrices.{Pair}
use Rattle.scheme.specs.Pairs.{pair}

-- bit i: bit i mod 8, lowest first, of byte i div 8
unfoldable pub hash_bit : List ℕ → ℕ → ℤ
hash_bit hash i = pos (slice_index hash (i / 8) / 2 ^ (i % 8) % 2)

-- the 2n bits, h0 then h1
unfoldable pub hash_pair : ℕ → List ℕ → Pair
hash_pair n hash = pair (map (hash_bit hash) (range_with_len 0 n)) (map (hash_bit hash) (range_with_len n n))
