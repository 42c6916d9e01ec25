use Rattle.std.proofs.Common.{◌≡◌, List, set, replicate, ℤ, pos, refl, ap, ◌∙◌}
use Rattle.ring.specs.Elements.{constant, total}
use Rattle.ring.specs.declared.class.Class.TheVariants.{One}
use Rattle.scheme.specs.Keys.{all_within, odd, key_limit}
use Rattle.key.specs.Resting.{resting_basis}
use Rattle.key.specs.Stored.{front, room_of}
use Rattle.key.proofs.Resting.{front_constant, front_blank, padded_constant, padded_blank, one_small, zero_small, one_odd, resting_determinant}
use Rattle.key.proofs.key.Key.resting.Goals as goal

is_one : (xs : List ℤ) → xs ≡ set (replicate room_of (pos 0)) 0 (pos 1) → front One xs ≡ constant 4 (pos 1)
is_one xs e = ap (front One) e ∙ front_constant (pos 1)

is_zero : (xs : List ℤ) → xs ≡ replicate room_of (pos 0) → front One xs ≡ constant 4 (pos 0)
is_zero xs e = ap (front One) e ∙ front_blank

pub invariant_of-result : goal.invariant_of-result
unfolding resting_basis
invariant_of-result c =
    let f = is_one c.constant.result c.constant.ensures in
    let g = is_one c.constant-2.result c.constant-2.ensures in
    let F = is_zero c.filled.result c.filled.ensures in
    let G = is_one c.constant-3.result c.constant-3.ensures in
    record {
      small_f = ap (all_within key_limit) f ∙ one_small;
      small_g = ap (all_within key_limit) g ∙ one_small;
      small_cap_f = ap (all_within key_limit) F ∙ zero_small;
      small_cap_g = ap (all_within key_limit) G ∙ one_small;
      odd_f = ap (λ xs. odd (total xs)) f ∙ one_odd;
      odd_g = ap (λ xs. odd (total xs)) g ∙ one_odd;
      unit_determinant = rw (f, g, F, G) resting_determinant;
    }

pub returns : goal.returns
unfolding resting_basis
returns c =
    let f = is_one c.constant.result c.constant.ensures in
    let g = is_one c.constant-2.result c.constant-2.ensures in
    let F = is_zero c.filled.result c.filled.ensures in
    let G = is_one c.constant-3.result c.constant-3.ensures in
    record {
      class = refl;
      basis = rw (f, g, F, G);
      held = record {
        class_is = refl;
        f_is = c.constant.ensures ∙ padded_constant (pos 1);
        g_is = c.constant-2.ensures ∙ padded_constant (pos 1);
        F_is = c.filled.ensures ∙ padded_blank;
        G_is = c.constant-3.ensures ∙ padded_constant (pos 1);
      };
    }
