-- Elements of Z[X]/(X^n + 1), as lists of their n coefficients, lowest power first.
-- Each definition speaks of lists of any length; n is the length. Assumes nothing.
use Rattle.std.specs.Prelude.{ℕ, ◌+◌, ◌-◌, List, [], ◌∷◌, ◌++◌, map, reverse, length, take, drop, replicate, ℤ, pos, ◌+ℤ◌, ◌-ℤ◌, ◌*ℤ◌, neg_ℤ}
use Rattle.std.specs.List.{range_with_len}

-- x_0·y_0 + x_1·y_1 + ..
unfoldable pub dot : List ℤ → List ℤ → ℤ
dot [] ys = pos 0
dot (x ∷ xs) [] = pos 0
dot (x ∷ xs) (y ∷ ys) = x *ℤ y +ℤ dot xs ys

-- the sum of a_i · b_j over i + j = m − 1, for two lists of m numbers
unfoldable pub crossed : List ℤ → List ℤ → ℤ
crossed a b = dot a (reverse b)

-- coefficient k of a·b: the sum of a_i · b_j over i + j = k, less the sum over i + j = k + n
unfoldable pub coefficient : List ℤ → List ℤ → ℕ → ℤ
coefficient a b k = crossed (take (k + 1) a) (take (k + 1) b) -ℤ crossed (drop (k + 1) a) (drop (k + 1) b)

unfoldable pub product : List ℤ → List ℤ → List ℤ
product a b = map (coefficient a b) (range_with_len 0 (length a))

unfoldable pub sum : List ℤ → List ℤ → List ℤ
sum [] b = []
sum (x ∷ a) [] = []
sum (x ∷ a) (y ∷ b) = (x +ℤ y) ∷ sum a b

unfoldable pub negative : List ℤ → List ℤ
negative a = map neg_ℤ a

unfoldable pub difference : List ℤ → List ℤ → List ℤ
difference a b = sum a (negative b)

-- a*: coefficient 0 is a_0, and coefficient i is −a_(n−i)
unfoldable pub adjoint : List ℤ → List ℤ
adjoint [] = []
adjoint (x ∷ xs) = x ∷ map neg_ℤ (reverse xs)

-- X^k · a for k up to n: the last k numbers come to the front, with their signs changed
unfoldable pub turned : ℕ → List ℤ → List ℤ
turned k a = map neg_ℤ (drop (length a - k) a) ++ take (length a - k) a

-- c as an element of n coefficients
unfoldable pub constant : ℕ → ℤ → List ℤ
constant n c = take n (c ∷ replicate n (pos 0))

-- the sum of the coefficients
unfoldable pub total : List ℤ → ℤ
total [] = pos 0
total (x ∷ xs) = x +ℤ total xs
