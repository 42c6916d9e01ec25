-- Bases as matrices, the one matrix that joins two keys with one form, and what a key determines modulo 2.
use Rattle.std.proofs.Common.{◌≡◌, ℕ, zero, suc, List, ◌++◌, map, ℤ, nat_abs, sym, ap, ◌∙◌, subst, inl, inr, arith}
use Rattle.std.proofs.lemmas.List.{map-append}
use Rattle.scheme.specs.Matrices.{Pair, PairOf, applied, composed, basis_of, pairing, squared_length, magnitudes}
use Rattle.algebra.specs.Isometries.{Power, Moves, Congruent, Determines, BasesAreMatrices, OneFormOneJoiner, InvertibleModuloTwo}
use Rattle.algebra.proofs.Elements.{El, ⊖, 𝟏}
use Rattle.algebra.proofs.Powers.{turns}
use Rattle.algebra.proofs.Mats.{Mat, Vec, ◌⊙◌, ◌▷◌, unit, det, turned_over, ▷_assoc, unit_▷, over_left, over_right}
use Rattle.algebra.proofs.Norms.{gram, starry, gram_is, norm_form}
use Rattle.algebra.proofs.Units.{Monomial}
use Rattle.algebra.proofs.Isometries.{joiner, joins, only_joiner, Mover, joiner_moves, joiner_undone, joiner_source}
use Rattle.algebra.proofs.Moves.{mover_norm, mover_sizes}
use Rattle.algebra.proofs.Laws.{listed, zeros_are}
use Rattle.algebra.proofs.Bridges.{mat_of, lists, lists_size, vec_of, pairs, composed_is, applied_is, pairing_is, length_is, unit_is, same_lists, key_size, det_is, inverse_is, form_is, starred_is, same_grams}
use Rattle.algebra.proofs.Modulo.{applied_alike}

pub bases_are_matrices : BasesAreMatrices
bases_are_matrices zero b h s = absurd (omega arith)
bases_are_matrices (suc m) b h s =
    let M : Mat m = mat_of (basis_of b) s in
    record {
      inverse_right = λ e. ap (composed (basis_of b)) (inverse_is b s) ∙ composed_is M (turned_over M) ∙ ap lists (over_right M (det_is b s e)) ∙ unit_is m;
      inverse_left = λ e. ap (λ t. composed t (basis_of b)) (inverse_is b s) ∙ composed_is (turned_over M) M ∙ ap lists (over_left M (det_is b s e)) ∙ unit_is m;
      form_is = form_is b s ∙ ap lists (gram_is M) ∙ sym (ap (λ t. composed t (basis_of b)) (starred_is M) ∙ composed_is (starry M) M);
      lengths = λ v p.
          ap (λ q. pairing v (applied q v)) (form_is b s) ∙ ap (pairing v) (applied_is (gram M) (vec_of v p))
          ∙ pairing_is (vec_of v p) (gram M ▷ vec_of v p) ∙ norm_form M (vec_of v p) ∙ sym (ap squared_length (applied_is M (vec_of v p)) ∙ length_is (M ▷ vec_of v p));
    }

pub twice_applied : {m : ℕ} (V M : Mat m) (v : Vec m) → applied (lists V) (applied (lists M) (pairs v)) ≡ pairs ((V ⊙ M) ▷ v)
twice_applied V M v = ap (applied (lists V)) (applied_is M v) ∙ applied_is V (M ▷ v) ∙ ap pairs (sym (▷_assoc V M v))

-- what a matrix with an inverse on the left was applied to is found again
pub undone : {m : ℕ} (M V : Mat m) → V ⊙ M ≡ unit → (u : Pair) → PairOf (suc m) u → applied (lists V) (applied (lists M) u) ≡ u
undone M V e u r = twice_applied V M (vec_of u r) ∙ ap pairs (ap (λ t. t ▷ vec_of u r) e ∙ unit_▷ (vec_of u r))

pub found_again : {m : ℕ} (M V : Mat m) → V ⊙ M ≡ unit → (h t : Pair) → PairOf (suc m) h → Congruent 2 t (applied (lists M) h) → Congruent 2 (applied (lists V) t) h
found_again M V e h t r c =
    subst (Congruent 2 (applied (lists V) t)) (undone M V e h r) (applied_alike 2 (omega arith) (lists V) t (applied (lists M) h) c)

pub determined : {m : ℕ} (M V : Mat m) → V ⊙ M ≡ unit → Determines (suc m) (lists M)
determined M V e v w p q h =
    subst (λ s. Congruent 2 s w) (undone M V e v p) (found_again M V e w (applied (lists M) v) q h)

pub invertible_modulo_two : InvertibleModuloTwo
invertible_modulo_two zero b h k = absurd (omega arith)
invertible_modulo_two (suc m) b h k =
    let s = key_size (suc m) b k in
    let M : Mat m = mat_of (basis_of b) s in
    let back : turned_over M ⊙ M ≡ unit = over_left M (det_is b s k.unit_determinant) in
    record {
      determines = determined M (turned_over M) back;
      found = λ h t r c. subst (λ u. Congruent 2 (applied u t) h) (sym (inverse_is b s)) (found_again M (turned_over M) back h t r c);
    }

power_of : {m : ℕ} (p : El m) → Monomial p → Power (suc m) p.list
unfolding turns ⊖ 𝟏
power_of p u = (u.0, u.1, elim u.2 [ inl e ↦ inl (listed e) | inr e ↦ inr (listed e) ])

moves_of : {m : ℕ} (U : Mat m) → Mover U → Moves (suc m) (lists U)
moves_of {m} U (inl s) = inl (power_of U.a s.0, listed s.1 ∙ zeros_are m, listed s.2 ∙ zeros_are m, power_of U.d s.3)
moves_of {m} U (inr s) = inr (listed s.0 ∙ zeros_are m, power_of U.b s.1, power_of U.c s.2, listed s.3 ∙ zeros_are m)

magnitudes_of : (a b : List ℤ) → magnitudes (record { first = a; second = b }) ≡ map nat_abs a ++ map nat_abs b
unfolding magnitudes
magnitudes_of a b = map-append nat_abs a b

pub one_form_one_joiner : OneFormOneJoiner
one_form_one_joiner zero b b' h k k' e = absurd (omega arith)
one_form_one_joiner (suc m) b b' h k k' e =
    let s = key_size (suc m) b k in
    let s' = key_size (suc m) b' k' in
    let M : Mat m = mat_of (basis_of b) s in
    let N : Mat m = mat_of (basis_of b') s' in
    let d : det M ≡ 𝟏 = det_is b s k.unit_determinant in
    let d' : det N ≡ 𝟏 = det_is b' s' k'.unit_determinant in
    let U : Mat m = joiner M N in
    let mover : Mover U = joiner_moves M N d d' (same_grams b b' s s' e) in
    record {
      by = lists U;
      by_size = lists_size U;
      joins = composed_is U M ∙ ap lists (joins M N d);
      only = λ u r c. ap lists (only_joiner M N (mat_of u r) d (same_lists _ _ (sym (composed_is (mat_of u r) M) ∙ c)));
      moves = moves_of U mover;
      keeps_length = λ v p. ap squared_length (applied_is U (vec_of v p)) ∙ length_is (U ▷ vec_of v p) ∙ mover_norm U (vec_of v p) mover ∙ sym (length_is (vec_of v p));
      keeps_numbers = λ v p. rw (
        applied_is U (vec_of v p),
        magnitudes_of v.first v.second,
        magnitudes_of (U ▷ vec_of v p).x.list (U ▷ vec_of v p).y.list,
      ) (mover_sizes U (vec_of v p) mover);
      same_source = λ x p.
          ap (λ t. applied t (applied (lists U) x)) (inverse_is b' s') ∙ twice_applied (turned_over N) U (vec_of x p)
          ∙ ap (λ t. pairs (t ▷ vec_of x p)) (joiner_source M N d') ∙ sym (ap (λ t. applied t x) (inverse_is b s) ∙ applied_is (turned_over M) (vec_of x p));
      inverse = lists (joiner N M);
      inverse_left = composed_is (joiner N M) U ∙ ap lists (joiner_undone M N d d') ∙ unit_is m;
      inverse_right = composed_is U (joiner N M) ∙ ap lists (joiner_undone N M d' d) ∙ unit_is m;
      determines = determined U (joiner N M) (joiner_undone M N d d');
    }
