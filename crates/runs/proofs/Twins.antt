-- Two keys with one form, joined by U: what a session asks and makes of a sample x under the first key, it asks
-- and makes of U·x under the second.
use Rattle.std.proofs.Common.{◌≡◌, ℕ, ◌*◌, ◌<◌, true, false, eqb, leb, List, [], ◌∷◌, ◌++◌, map, length, ℤ, pos, nat_abs, sym, refl, ap, ◌∙◌, inl, inr, arith}
use Rattle.std.specs.List.{AllByRecursion}
use Rattle.std.specs.Str.{bytes_eq}
use Rattle.std.proofs.ByRecursion.{All-map, all_shuffled}
use Rattle.std.proofs.lemmas.Slice.Eq.{bytes_eq-Decides}
use Rattle.std.proofs.lemmas.List.{length-map}
use Rattle.std.proofs.lemmas.Bool.{eqb-true, cond-true, cond-false, cases_Bool}
use Rattle.std.proofs.lemmas.Bool.Decides.{same_from_decides, Decides-like}
use Rattle.ring.specs.Kinds.{rest}
use Rattle.ring.proofs.Residues.{rest_rest}
use Rattle.scheme.specs.Keys.{Basis, IsKey, Within}
use Rattle.scheme.specs.Matrices.{Pair, PairOf, applied, basis_of, magnitudes}
use Rattle.scheme.specs.Pairs.{pair_from, numbers_of, parities}
use Rattle.scheme.specs.Signing.{target_of, source_of, signature_of, length_of}
use Rattle.algebra.specs.Isometries.{Joined, Congruent}
use Rattle.algebra.proofs.Bridges.{key_size}
use Rattle.algebra.proofs.Modulo.{applied_alike}
use Rattle.runs.specs.Paired.{moved, moved_target}
use Rattle.acceptance.proofs.Points.{pair_from_size, numbers_size, from_numbers, numbers_from, congruent_parities, parities_congruent}
use Rattle.acceptance.proofs.Bases.{applied_size}
use Rattle.runs.proofs.Applied.{composed_applied}

all_unmapped : {X Y : Type 0} (P : Y → Type 0) (f : X → Y) (xs : List X) → AllByRecursion P (map f xs) → AllByRecursion (λ x. P (f x)) xs
all_unmapped P f [] h = tt
all_unmapped P f (x ∷ xs) h = (h.0, all_unmapped P f xs h.1)

rests_again : (zs : List ℤ) → map (rest 2) (map pos (map (rest 2) zs)) ≡ map (rest 2) zs
rests_again [] = refl
rests_again (z ∷ zs) = rw (rest_rest 2 z (omega arith), rests_again zs)

-- the parities of a pair, as numbers, are congruent to it
own_parities : (n : ℕ) (v : Pair) → PairOf n v → Congruent 2 (pair_from n (map pos (parities v))) v
unfolding parities
own_parities n v p =
    let t : List ℤ = map pos (map (rest 2) (numbers_of v)) in
    let long : length t ≡ 2 * n = length-map (map (rest 2) (numbers_of v)) pos ∙ length-map (numbers_of v) (rest 2) ∙ numbers_size n v p in
    parities_congruent n (pair_from n t) v (pair_from_size n t long) p (ap (map (rest 2)) (numbers_from n t) ∙ rests_again (numbers_of v))

module _ (n : ℕ) (b b' : Basis) (positive : 0 < n) (key : IsKey n b) (j : Joined n b b') where
  abbrev pub by : Pair → Pair
  by v = applied j.by v

  pub by_size : (v : Pair) → PairOf n (by v)
  by_size v = applied_size n j.by v j.by_size

  basis_size : (h : Pair) → PairOf n (applied (basis_of b) h)
  basis_size h = applied_size n (basis_of b) h (key_size n b key)

  -- B'·h = U·(B·h)
  basis_moved : (h : Pair) → PairOf n h → applied (basis_of b') h ≡ by (applied (basis_of b) h)
  basis_moved h p =
      ap (λ m. applied m h) (sym j.joins) ∙ composed_applied n positive j.by (basis_of b) j.by_size (key_size n b key) h p

  -- ---- targets
  pub target_moved : (h : Pair) → PairOf n h → target_of b' h ≡ moved_target n j.by (target_of b h)
  unfolding target_of moved_target
  target_moved h p =
      let v = applied (basis_of b) h in
      ap parities (basis_moved h p)
      ∙ sym (congruent_parities _ _ (applied_alike 2 (omega arith) j.by (pair_from n (map pos (parities v))) v (own_parities n v (basis_size h))))

  coset_there : (h x : Pair) → PairOf n h → PairOf n x → parities x ≡ target_of b h → parities (by x) ≡ target_of b' h
  unfolding target_of
  coset_there h x p q e =
      congruent_parities (by x) (by (applied (basis_of b) h)) (applied_alike 2 (omega arith) j.by x (applied (basis_of b) h) (parities_congruent n x _ q (basis_size h) e))
      ∙ sym (ap parities (basis_moved h p))

  coset_back : (h x : Pair) → PairOf n h → PairOf n x → parities (by x) ≡ target_of b' h → parities x ≡ target_of b h
  unfolding target_of
  coset_back h x p q e =
      let v = applied (basis_of b) h in
      congruent_parities x v (j.determines x v q (basis_size h)
      (parities_congruent n (by x) (by v) (by_size x) (by_size v) (e ∙ ap parities (basis_moved h p))))

  pub coset_same : (h x : Pair) → PairOf n h → PairOf n x → bytes_eq (parities (by x)) (target_of b' h) ≡ bytes_eq (parities x) (target_of b h)
  coset_same h x p q =
      same_from_decides (bytes_eq (parities (by x)) (target_of b' h)) (bytes_eq (parities x) (target_of b h))
      (bytes_eq-Decides (parities (by x)) (target_of b' h))
      (Decides-like (bytes_eq (parities x) (target_of b h)) (coset_there h x p q) (coset_back h x p q) (bytes_eq-Decides (parities x) (target_of b h)))

  -- ---- lengths, sources and signatures
  pub length_same : (x : Pair) → PairOf n x → length_of (by x) ≡ length_of x
  unfolding length_of
  length_same x q = ap nat_abs (j.keeps_length x q)

  pub source_same : (x : Pair) → PairOf n x → source_of b' (by x) ≡ source_of b x
  unfolding source_of
  source_same x q = j.same_source x q

  pub signature_same : (h x : Pair) → PairOf n x → signature_of b' h (by x) ≡ signature_of b h x
  unfolding signature_of
  signature_same h x q = rw (source_same x q)

  -- ---- samples
  pub moved_is : (sample : List ℤ) → eqb (length sample) (2 * n) ≡ true → moved n j.by sample ≡ numbers_of (by (pair_from n sample))
  unfolding moved
  moved_is sample e = cond-true (eqb (length sample) (2 * n)) _ _ e

  pub unmoved : (sample : List ℤ) → eqb (length sample) (2 * n) ≡ false → moved n j.by sample ≡ sample
  unfolding moved
  unmoved sample e = cond-false (eqb (length sample) (2 * n)) _ _ e

  pub moved_pair : (sample : List ℤ) → eqb (length sample) (2 * n) ≡ true → pair_from n (moved n j.by sample) ≡ by (pair_from n sample)
  moved_pair sample e = ap (pair_from n) (moved_is sample e) ∙ from_numbers n (by (pair_from n sample)) (by_size (pair_from n sample))

  pub length_moved : (sample : List ℤ) → length (moved n j.by sample) ≡ length sample
  length_moved sample =
      elim (cases_Bool (eqb (length sample) (2 * n))) [
        | inl e ↦ ap length (moved_is sample e) ∙ numbers_size n (by (pair_from n sample)) (by_size (pair_from n sample)) ∙ sym (eqb-true (length sample) (2 * n) e)
        | inr e ↦ ap length (unmoved sample e)
      ]

  within_moved : (m : ℕ) (x : Pair) → PairOf n x → AllByRecursion (Within m) (numbers_of x) → AllByRecursion (Within m) (numbers_of (by x))
  unfolding magnitudes numbers_of
  within_moved m x q h =
      all_unmapped (λ k. leb k m ≡ true) nat_abs ((by x).first ++ (by x).second)
      (all_shuffled (λ k. leb k m ≡ true) (magnitudes x) (magnitudes (by x)) (j.keeps_numbers x q) (All-map (λ k. leb k m ≡ true) nat_abs (x.first ++ x.second) h))

  pub fits_moved : (sample : List ℤ) (m : ℕ) → AllByRecursion (Within m) sample → AllByRecursion (Within m) (moved n j.by sample)
  fits_moved sample m h =
      elim (cases_Bool (eqb (length sample) (2 * n))) [
        | inl e ↦
            rw (moved_is sample e)
            (within_moved m (pair_from n sample) (pair_from_size n sample (eqb-true (length sample) (2 * n) e)) (rw (numbers_from n sample) h))
        | inr e ↦ rw (unmoved sample e) h
      ]
