-- The lengths that targets and signatures ask for. Assumes nothing.
use Rattle.std.specs.Prelude.{ℕ, ◌*◌, ◌&&◌, ◌==◌}
use Rattle.ring.specs.Classes.{size_of, hash_length_of}
use Rattle.ring.specs.Faults.{Test, test}
use Rattle.ring.specs.declared.class.Class.{Class}
use Rattle.scheme.specs.Refusals.{session_fault}
use Rattle.scheme.specs.declared.fault.SessionFault.TheVariants.{Length}

-- a hash of n/4 bytes, an area of 2n, a scratch of 4n words
abbrev pub target_sizes : Class → ℕ → ℕ → ℕ → Test
target_sizes class hash area words =
    test (hash == hash_length_of class && area == 2 * size_of class && words == 4 * size_of class) (session_fault Length)

-- the same, with a sample of 2n numbers
abbrev pub sign_sizes : Class → ℕ → ℕ → ℕ → ℕ → Test
sign_sizes class hash sample area words =
    test (hash == hash_length_of class && sample == 2 * size_of class && area == 2 * size_of class && words == 4 * size_of class) (session_fault Length)
