-- The four classes of keys, with their numbers. Assumes nothing.
use Rattle.std.specs.Prelude.{ℕ, cond, Some, None, Option, ◌==◌}
use Rattle.ring.specs.declared.class.Class.{Class}
use Rattle.ring.specs.declared.class.Class.TheVariants.{One, Two, Three, Four}

-- the number of a class in a slip's trailer
abbrev pub code_of : Class → ℕ
code_of One = 1
code_of Two = 2
code_of Three = 3
code_of Four = 4

-- n, the number of coefficients of an element
abbrev pub size_of : Class → ℕ
size_of One = 4
size_of Two = 256
size_of Three = 512
size_of Four = 1024

-- L, the largest squared length of a sample: for classes 2 to 4 the whole part of 8 · n · σ²
-- with σ = 1.040, 1.425 and 1.572
abbrev pub bound_of : Class → ℕ
bound_of One = 16
bound_of Two = 2215
bound_of Three = 8317
bound_of Four = 20243

-- a hash has n / 4 bytes, which hold 2n bits
abbrev pub hash_length_of : Class → ℕ
hash_length_of One = 1
hash_length_of Two = 64
hash_length_of Three = 128
hash_length_of Four = 256

-- the class with that number
abbrev pub with_code : ℕ → Option Class
with_code k = cond (k == 1) (Some One) (cond (k == 2) (Some Two) (cond (k == 3) (Some Three) (cond (k == 4) (Some Four) None)))

-- the class whose elements have n coefficients
abbrev pub with_size : ℕ → Option Class
with_size n = cond (n == 4) (Some One) (cond (n == 256) (Some Two) (cond (n == 512) (Some Three) (cond (n == 1024) (Some Four) None)))
