-- States with equal parts are equal.
use Rattle.std.proofs.Common.{◌≡◌, ℕ, List, Option}
use Rattle.scheme.specs.Sessions.{State}

pub same_state : {entries entries' : List (List ℕ)} {standing standing' : Option (List ℕ)} {capacity capacity' : ℕ} {spare spare' : List ℕ}
    → entries ≡ entries' → standing ≡ standing' → capacity ≡ capacity' → spare ≡ spare'
    → ◌≡◌ {A = State} (record { entries = entries; standing = standing; capacity = capacity; spare = spare })
    (record { entries = entries'; standing = standing'; capacity = capacity'; spare = spare' })
same_state e s c p = cc
