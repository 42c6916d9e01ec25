-- A list written over the front of another, one number at a time.
use Rattle.std.proofs.Common.{◌≡◌, ℕ, suc, ◌+◌, ◌<◌, min, List, [], ◌∷◌, ◌++◌, map, length, get_or, take, drop, set, ℤ, sym, refl, ap, ◌∙◌, append_assoc, append-nil, add-one, arith, drop-cons}
use Rattle.std.proofs.lemmas.List.{take_more, take_all, drop_all, set_at, length-take-le}
use Rattle.ring.specs.Wide.{over}

module _ {X : Type 0} (xs ys : List X) where
  pub over_more : (to : List X) (i : ℕ) (x : X) → i < length xs → i < length ys → x ≡ get_or xs i x → to ≡ take i xs ++ drop i ys
      → set to i x ≡ take (i + 1) xs ++ drop (i + 1) ys
  over_more to i x h k e inv =
      let split : to ≡ take i xs ++ (get_or ys i x ∷ drop (i + 1) ys) = inv ∙ rw (add-one i, drop-cons ys i x k) in
      ap (λ l. set l i x) split
      ∙ set_at (take i xs) (get_or ys i x) (drop (i + 1) ys) x i (length-take-le i xs (omega arith))
      ∙ sym (ap (λ l. l ++ drop (i + 1) ys) (take_more xs i x h ∙ ap (λ y. take i xs ++ (y ∷ [])) (sym e)) ∙ append_assoc (take i xs) (x ∷ []) (drop (i + 1) ys))

over_min : {X : Type 0} (xs ys : List X) → take (min (length xs) (length ys)) xs ++ drop (min (length xs) (length ys)) ys ≡ take (length ys) xs ++ drop (length xs) ys
over_min [] [] = refl
over_min [] (y ∷ ys) = let e : min 0 (length (y ∷ ys)) ≡ 0 = omega arith in rw e
over_min (x ∷ xs) [] = let e : min (length (x ∷ xs)) 0 ≡ 0 = omega arith in rw e
over_min (x ∷ xs) (y ∷ ys) =
    let e : min (length (x ∷ xs)) (length (y ∷ ys)) ≡ suc (min (length xs) (length ys)) = omega arith in
    rw e (ap {B = List _} (λ l. x ∷ l) (over_min xs ys))

pub over_all : {X : Type 0} (xs ys to : List X) (i : ℕ) → i ≡ min (length xs) (length ys) → to ≡ take i xs ++ drop i ys → to ≡ over xs ys
unfolding over
over_all xs ys to i e inv = inv ∙ ap (λ k. take k xs ++ drop k ys) e ∙ over_min xs ys

-- over a list of its own length
pub over_same : {X : Type 0} (xs ys : List X) → length ys ≡ length xs → over xs ys ≡ xs
unfolding over
over_same xs ys e =
    let t : take (length ys) xs ≡ xs = take_all (length ys) xs (omega arith) in
    let d : drop (length xs) ys ≡ [] = drop_all (length xs) ys (omega arith) in
    rw (t, d) (append-nil xs)

-- numbers that are integers already, over a list of their length
pub widened : (xs ys : List ℤ) → length ys ≡ length xs → over (map (λ x. x) xs) ys ≡ xs
widened xs ys e = ap (λ l. over l ys) (map_same xs) ∙ over_same xs ys e
  where
    map_same : (l : List ℤ) → map (λ x. x) l ≡ l
    map_same [] = refl
    map_same (x ∷ l) = ap {B = List ℤ} (λ t. x ∷ t) (map_same l)
