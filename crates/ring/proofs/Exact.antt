-- The lift: where the true integers are small enough, words show them exactly.
use Rattle.std.proofs.Common.{◌≡◌, ℕ, ◌+◌, ◌*◌, ◌^◌, ◌<◌, List, [], ◌∷◌, ◌++◌, map, reverse, length, take, drop, ℤ, pos, ◌*ℤ◌, neg_ℤ, sym, refl, ap, ◌∙◌, arith, w64, SFits}
use mathlib.Core.List.{reverse-cons}
use Rattle.std.proofs.lemmas.List.{map_push, take-map, drop-map}
use Rattle.ring.specs.Elements.{dot, crossed, coefficient, adjoint}
use Rattle.ring.specs.Kinds.{rest, values, word_value}
use Rattle.ring.proofs.Residues.{same_sum, same_negative, same_product, rest_rest}
use Rattle.ring.proofs.Sizes.{Bounded, coefficient_size, fits_word}
use Rattle.ring.specs.Below.{word_positive}
use Rattle.ring.proofs.Words.{same_word}

pub map_reverse : {X Y : Type 0} (f : X → Y) (xs : List X) → reverse (map f xs) ≡ map f (reverse xs)
map_reverse f [] = refl
map_reverse f (x ∷ xs) = reverse-cons (f x) (map f xs) ∙ ap (λ ys. ys ++ (f x ∷ [])) (map_reverse f xs) ∙ sym (map_push f (reverse xs) x) ∙ ap (map f) (sym (reverse-cons x xs))

-- residues in, the same residue out
module _ (m : ℕ) (h : 0 < m) where
  same_dot : (a b : List ℤ) → rest m (dot (values (rest m) a) (values (rest m) b)) ≡ rest m (dot a b)
  unfolding dot
  same_dot [] b = refl
  same_dot (x ∷ a) [] = refl
  same_dot (x ∷ a) (y ∷ b) =
      same_sum m _ (x *ℤ y) _ (dot a b) h (same_product m (pos (rest m x)) x (pos (rest m y)) y h (rest_rest m x h) (rest_rest m y h)) (same_dot a b)

  same_crossed : (a b : List ℤ) → rest m (crossed (values (rest m) a) (values (rest m) b)) ≡ rest m (crossed a b)
  unfolding crossed
  same_crossed a b = rw (map_reverse (λ z. pos (rest m z)) b) (same_dot a (reverse b))

  pub same_coefficient : (a b : List ℤ) (k : ℕ) → rest m (coefficient (values (rest m) a) (values (rest m) b) k) ≡ rest m (coefficient a b k)
  unfolding coefficient
  same_coefficient a b k =
      rw (take-map (λ z. pos (rest m z)) (k + 1) a, take-map (λ z. pos (rest m z)) (k + 1) b, drop-map (λ z. pos (rest m z)) (k + 1) a, drop-map (λ z. pos (rest m z)) (k + 1) b)
      (same_sum m _ (crossed (take (k + 1) a) (take (k + 1) b)) _ (neg_ℤ (crossed (drop (k + 1) a) (drop (k + 1) b))) h
      (same_crossed (take (k + 1) a) (take (k + 1) b))
      (same_negative m _ (crossed (drop (k + 1) a) (drop (k + 1) b)) h (same_crossed (drop (k + 1) a) (drop (k + 1) b))))

-- a coefficient worked out in words is the true one, where the numbers of a and b are at most A and B in size
pub exact_coefficient : (A B : ℕ) (a b : List ℤ) (k : ℕ) (r : ℤ) → Bounded A a → Bounded B b → length a * (A * B) < 2 ^ 63 → SFits w64 r
    → word_value r ≡ rest (2 ^ 64) (coefficient (values word_value a) (values word_value b) k) → r ≡ coefficient a b k
exact_coefficient A B a b k r ha hb small fits e =
    same_word r (coefficient a b k) fits (fits_word (coefficient a b k) (omega (arith, coefficient_size A B a b k ha hb)))
    (e ∙ same_coefficient (2 ^ 64) word_positive a b k)

-- lists of words with the same residues are alike
pub values_alike : {X Y : Type 0} (f : X → ℕ) (g : Y → ℕ) (xs : List X) (ys : List Y) → map f xs ≡ map g ys → values f xs ≡ values g ys
values_alike f g xs ys e = split f xs ∙ ap (map pos) e ∙ sym (split g ys)
  where
    split : {X : Type 0} (f : X → ℕ) (xs : List X) → values f xs ≡ map pos (map f xs)
    split f [] = refl
    split f (x ∷ xs) = ap (λ zs. pos (f x) ∷ zs) (split f xs)

-- the adjoint of residues has the residues of the adjoint
pub same_adjoint : (m : ℕ) → 0 < m → (a : List ℤ) → map (rest m) (adjoint (values (rest m) a)) ≡ map (rest m) (adjoint a)
unfolding adjoint
same_adjoint m h [] = refl
same_adjoint m h (x ∷ xs) = rw (map_reverse (λ z. pos (rest m z)) xs, rest_rest m x h) (ap (λ zs. rest m x ∷ zs) (go (reverse xs)))
  where
    go : (ys : List ℤ) → map (rest m) (map neg_ℤ (values (rest m) ys)) ≡ map (rest m) (map neg_ℤ ys)
    go [] = refl
    go (y ∷ ys) = rw (same_negative m (pos (rest m y)) y h (rest_rest m y h)) (ap (λ zs. rest m (neg_ℤ y) ∷ zs) (go ys))
