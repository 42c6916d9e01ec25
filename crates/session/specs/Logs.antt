-- The entries of a log. Assumes nothing.
use Rattle.std.specs.Prelude.{ℕ, zero, suc, ◌*◌, List, [], ◌∷◌, ◌++◌, take, drop}

-- entry k of a log whose entries have this length
abbrev pub chunk : ℕ → ℕ → List ℕ → List ℕ
chunk length k bytes = take length (drop (k * length) bytes)

-- the first entries, oldest first
unfoldable pub chunks : ℕ → ℕ → List ℕ → List (List ℕ)
chunks length zero bytes = []
chunks length (suc count) bytes = chunks length count bytes ++ (chunk length count bytes ∷ [])
