-- Elements in fixed memory: the first n of 1,024 numbers, zeros behind them. Assumes nothing.
use Rattle.std.specs.Prelude.{ℕ, ◌-◌, List, ◌++◌, length, take, replicate, ℤ, pos}
use Rattle.ring.specs.Classes.{size_of}
use Rattle.ring.specs.declared.class.Class.{Class}

-- the numbers that memory has for an element
abbrev pub room_of : ℕ
room_of = 1024

unfoldable pub front : {X : Type 0} → Class → List X → List X
front class numbers = take (size_of class) numbers

unfoldable pub padded : List ℤ → List ℤ
padded numbers = numbers ++ replicate (room_of - length numbers) (pos 0)
