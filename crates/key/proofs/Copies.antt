-- Lists that a loop writes place by place.
use Rattle.std.proofs.Common.{◌≡◌, ℕ, ◌+◌, ◌<◌, ◌≤◌, List, map, length, get_or, take, set, sym, ap, ◌∙◌}
use Rattle.std.proofs.lemmas.List.{take_more, take_more_set, take_all, map_push}

-- a list that takes over another's numbers, one more
pub copied_more : {X : Type 0} (to from : List X) (i : ℕ) (x : X) (d : X) → i < length to → i < length from → x ≡ get_or from i d → take i to ≡ take i from → take (i + 1) (set to i x) ≡ take (i + 1) from
copied_more to from i x d h k e inv = take_more_set to i x h ∙ rw (inv, e) (sym (take_more from i d k))

pub copied_all : {X : Type 0} (to from : List X) (i : ℕ) → length to ≤ i → length from ≤ i → take i to ≡ take i from → to ≡ from
copied_all to from i h k inv = sym (take_all i to h) ∙ inv ∙ take_all i from k

-- the same, where what is written stands for the numbers
module _ {X Y : Type 0} (f : X → Y) (to : List X) (from : List Y) (i : ℕ) where
  pub read_more : (x : X) (d : Y) → i < length to → i < length from → f x ≡ get_or from i d → map f (take i to) ≡ take i from → map f (take (i + 1) (set to i x)) ≡ take (i + 1) from
  read_more x d h k e inv = ap (map f) (take_more_set to i x h) ∙ map_push f (take i to) x ∙ rw (inv, e) (sym (take_more from i d k))

  pub read_all : length to ≤ i → length from ≤ i → map f (take i to) ≡ take i from → map f to ≡ from
  read_all h k inv = sym (ap (map f) (take_all i to h)) ∙ inv ∙ take_all i from k
