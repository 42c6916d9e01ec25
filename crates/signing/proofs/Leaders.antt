-- The first number of a list that is not 0, and its sign.
use Rattle.std.proofs.Common.{◌≡◌, ℕ, suc, ◌+◌, Bool, true, false, not, cond, eqb, List, [], ◌∷◌, map, find, ℤ, pos, negsuc, Option, Some, None, sym, refl, ◌∙◌, arith, w64, SFits, of_z}
use Rattle.std.specs.List.{prefix_len}
use Rattle.std.proofs.lemmas.Bool.{eq-eqb, ne_eqb}
use Rattle.scheme.specs.Pairs.{is_zero, leader}

-- a word that is 0, by its bits
pub zero_word : (v : ℤ) → SFits w64 v → of_z w64 v ≡ 0 → is_zero v ≡ true
zero_word (pos n) fits e = eq-eqb n 0 e
zero_word (negsuc n) fits e = absurd (omega (arith, fits.sfits))

pub other_word : (v : ℤ) → (of_z w64 v ≡ 0 → ⊥) → is_zero v ≡ false
other_word (pos n) h = ne_eqb n 0 h
other_word (negsuc n) h = ne_eqb (suc n) 0 (λ e. omega arith)

-- the test of a word is that of its number
word_is_zero : (v : ℤ) → SFits w64 v → eqb (of_z w64 v) 0 ≡ is_zero v
word_is_zero (pos n) fits = refl
word_is_zero (negsuc n) fits = ne_eqb (of_z w64 (negsuc n)) 0 (λ e. omega (arith, fits.sfits)) ∙ sym (ne_eqb (suc n) 0 (λ e. omega arith))

pub find_words : (f : ℕ → ℤ) → ((k : ℕ) → SFits w64 (f k)) → (ks : List ℕ)
    → find (λ z. not (eqb (of_z w64 z) 0)) (map f ks) ≡ find (λ z. not (is_zero z)) (map f ks)
find_words f fits [] = refl
find_words f fits (k ∷ ks) = rw (word_is_zero (f k) (fits k), find_words f fits ks) refl

-- the first number that is not 0 is the leader, where there is one
find_leader : (w : List ℤ) → find (λ z. not (is_zero z)) w ≡ cond (is_zero (leader w)) None (Some (leader w))
unfolding leader
find_leader [] = refl
find_leader (x ∷ w) = go (is_zero x) refl (find_leader w)
  where
    go : (b : Bool) → is_zero x ≡ b → find (λ z. not (is_zero z)) w ≡ cond (is_zero (leader w)) None (Some (leader w)) → find (λ z. not (is_zero z)) (x ∷ w) ≡ cond (is_zero (leader (x ∷ w))) None (Some (leader (x ∷ w)))
    go true e rest = let more : 1 + prefix_len is_zero w ≡ suc (prefix_len is_zero w) = omega arith in rw (e, more) rest
    go false e rest = rw e (rw e refl)

none_case : (b : Bool) (z : ℤ) → ◌≡◌ {A = Option ℤ} None (cond b None (Some z)) → b ≡ true
none_case true z e = refl
none_case false z e = absurd (cc)

some_case : (b : Bool) (z v : ℤ) → Some v ≡ cond b None (Some z) → (v ≡ z) × (b ≡ false)
some_case true z v e = absurd (cc)
some_case false z v e = (cc, refl)

pub leader_none : (w : List ℤ) → find (λ z. not (is_zero z)) w ≡ None → is_zero (leader w) ≡ true
leader_none w e = none_case _ (leader w) (sym e ∙ find_leader w)

pub leader_some : (w : List ℤ) (v : ℤ) → find (λ z. not (is_zero z)) w ≡ Some v → (v ≡ leader w) × (is_zero (leader w) ≡ false)
leader_some w v e = some_case _ (leader w) v (sym e ∙ find_leader w)
