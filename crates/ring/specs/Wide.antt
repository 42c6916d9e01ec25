-- A list written over the front of another. Assumes nothing.
use Rattle.std.specs.Prelude.{List, ◌++◌, length, take, drop}

-- xs over the front of ys, as far as there is room
unfoldable pub over : {X : Type 0} → List X → List X → List X
over xs ys = take (length ys) xs ++ drop (length xs) ys
