use Rattle.std.proofs.Common.{◌≡◌, List, set, replicate, ℤ, pos, refl, ap, ◌∙◌}
use Rattle.ring.specs.Elements.{constant}
use Rattle.ring.specs.declared.class.Class.TheVariants.{One}
use Rattle.scheme.specs.Keys.{all_within, form_limit}
use Rattle.key.specs.Stored.{front, room_of}
use Rattle.key.proofs.Resting.{front_constant, padded_constant, resting_form, constant_small, constant_selfadjoint}
use Rattle.key.proofs.form.Form.resting.Goals as goal

is_constant : (c : ℤ) (xs : List ℤ) → xs ≡ set (replicate room_of (pos 0)) 0 c → front One xs ≡ constant 4 c
is_constant c xs e = ap (front One) e ∙ front_constant c

pub invariant_of-result : goal.invariant_of-result
invariant_of-result c =
    let q00 = is_constant (pos 2) c.constant.result c.constant.ensures in
    let q01 = is_constant (pos 1) c.constant-2.result c.constant-2.ensures in
    let q11 = is_constant (pos 1) c.constant-3.result c.constant-3.ensures in
    record {
      small_q00 = ap (all_within form_limit) q00 ∙ constant_small (pos 2) refl;
      small_q01 = ap (all_within form_limit) q01 ∙ constant_small (pos 1) refl;
      small_q11 = ap (all_within form_limit) q11 ∙ constant_small (pos 1) refl;
      selfadjoint_q00 = rw q00 (constant_selfadjoint (pos 2));
      selfadjoint_q11 = rw q11 (constant_selfadjoint (pos 1));
    }

pub returns : goal.returns
returns c =
    let q00 = is_constant (pos 2) c.constant.result c.constant.ensures in
    let q01 = is_constant (pos 1) c.constant-2.result c.constant-2.ensures in
    let q11 = is_constant (pos 1) c.constant-3.result c.constant-3.ensures in
    record {
      class = refl;
      gram = rw (q00, q01, q11, resting_form);
      memory = rw resting_form (c.constant.ensures ∙ padded_constant (pos 2), c.constant-2.ensures ∙ padded_constant (pos 1), c.constant-3.ensures ∙ padded_constant (pos 1));
    }
