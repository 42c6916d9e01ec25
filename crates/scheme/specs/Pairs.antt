-- Pairs of elements number by number: as lists of 2n numbers, doubled, halved, modulo 2. Assumes nothing.
use Rattle.std.specs.Prelude.{ℕ, Bool, true, false, List, ◌++◌, map, take, drop, ℤ, pos, negsuc, ◌*ℤ◌, ◌==◌, nat_le, nat_lt, slice_index_or, unsigned_abs}
use Rattle.std.specs.Int.{int_div_euclid}
use Rattle.std.specs.List.{prefix_len}
use Rattle.ring.specs.Elements.{difference, negative}
use Rattle.ring.specs.Kinds.{rest}
use Rattle.scheme.specs.Matrices.{Pair}

abbrev pub pair : List ℤ → List ℤ → Pair
pair first second = record { first = first; second = second }

-- the pair whose 2n numbers a list holds, the first element's before the second's
unfoldable pub pair_from : ℕ → List ℤ → Pair
pair_from n numbers = pair (take n numbers) (drop n numbers)

unfoldable pub numbers_of : Pair → List ℤ
numbers_of v = v.first ++ v.second

-- −v
unfoldable pub opposite : Pair → Pair
opposite v = pair (negative v.first) (negative v.second)

abbrev pub twice : ℤ → ℤ
twice z = pos 2 *ℤ z

-- half of z, which is whole where z is even: −3 is half of −6
abbrev pub half : ℤ → ℤ
half z = int_div_euclid z (pos 2)

-- h − 2·s
unfoldable pub less_twice : Pair → Pair → Pair
less_twice h s = pair (difference h.first (map twice s.first)) (difference h.second (map twice s.second))

-- (h − v) / 2
unfoldable pub half_less : Pair → Pair → Pair
half_less h v = pair (map half (difference h.first v.first)) (map half (difference h.second v.second))

-- the 2n numbers modulo 2, each 0 or 1; −1 gives 1
unfoldable pub parities : Pair → List ℕ
parities v = map (rest 2) (numbers_of v)

abbrev pub is_zero : ℤ → Bool
is_zero z = unsigned_abs z == 0

abbrev pub is_positive : ℤ → Bool
is_positive (pos k) = nat_lt 0 k
is_positive (negsuc k) = false

abbrev pub is_negative : ℤ → Bool
is_negative (pos k) = false
is_negative (negsuc k) = true

-- 0 ≤ z ≤ l
abbrev pub up_to : ℕ → ℤ → Bool
up_to l (pos k) = nat_le k l
up_to l (negsuc k) = false

-- the first coefficient that is not 0; 0 where there is none
unfoldable pub leader : List ℤ → ℤ
leader a = slice_index_or a (prefix_len is_zero a) (pos 0)
