-- The tests of the ring's calls, by the lengths of their lists. Assumes nothing.
use Rattle.std.specs.Prelude.{ℕ, Bool, ◌&&◌, is_some, ◌==◌, nat_lt}
use Rattle.ring.specs.Classes.{with_size}
use Rattle.ring.specs.Faults.{Test, test, ring_fault}
use Rattle.ring.specs.declared.fault.RingFault.TheVariants.{Length, Range}

-- n numbers make an element of some class
abbrev pub of_class : ℕ → Bool
of_class n = is_some (with_size n)

-- one list, two or three of one class's size
abbrev pub length_test1 : ℕ → Test
length_test1 n = test (of_class n) (ring_fault Length)

abbrev pub length_test2 : ℕ → ℕ → Test
length_test2 n m = test (of_class n && m == n) (ring_fault Length)

abbrev pub length_test3 : ℕ → ℕ → ℕ → Test
length_test3 n m o = test (of_class n && m == n && o == n) (ring_fault Length)

-- a turn, or the number of a coefficient, is below n
abbrev pub range_test : ℕ → ℕ → Test
range_test n k = test (nat_lt k n) (ring_fault Range)
