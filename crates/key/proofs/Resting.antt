-- What holds of the resting key, computed.
use Rattle.std.proofs.Common.{◌≡◌, true, set, replicate, ℤ, pos, refl}
use Rattle.ring.specs.Elements.{dot, crossed, coefficient, product, sum, negative, difference, adjoint, constant, total}
use Rattle.ring.specs.Kinds.{rest}
use Rattle.ring.specs.declared.class.Class.TheVariants.{One}
use Rattle.scheme.specs.Keys.{within, all_within, odd, determinant, key_limit, form_limit, form_of}
use Rattle.key.specs.Resting.{resting_basis}
use Rattle.key.specs.Stored.{front, padded, room_of}

pub front_constant : (c : ℤ) → front One (set (replicate room_of (pos 0)) 0 c) ≡ constant 4 c
unfolding front constant
front_constant c = refl

pub front_blank : front One (replicate room_of (pos 0)) ≡ constant 4 (pos 0)
unfolding front constant
front_blank = refl

pub padded_constant : (c : ℤ) → set (replicate room_of (pos 0)) 0 c ≡ padded (constant 4 c)
unfolding padded constant
padded_constant c = refl

pub padded_blank : replicate room_of (pos 0) ≡ padded (constant 4 (pos 0))
unfolding padded constant
padded_blank = refl

pub one_small : all_within key_limit (constant 4 (pos 1)) ≡ true
unfolding constant
one_small = refl

pub zero_small : all_within key_limit (constant 4 (pos 0)) ≡ true
unfolding constant
zero_small = refl

pub one_odd : odd (total (constant 4 (pos 1))) ≡ true
unfolding constant total rest
one_odd = refl

pub resting_determinant : determinant resting_basis ≡ constant 4 (pos 1)
unfolding resting_basis determinant difference negative sum product coefficient crossed dot constant
resting_determinant = refl

-- the resting form: 2, 1, 1
pub resting_form : form_of resting_basis ≡ record { q00 = constant 4 (pos 2); q01 = constant 4 (pos 1); q11 = constant 4 (pos 1) }
unfolding resting_basis form_of sum product adjoint coefficient crossed dot constant
resting_form = refl

pub constant_small : (c : ℤ) → within form_limit c ≡ true → all_within form_limit (constant 4 c) ≡ true
unfolding constant
constant_small c h = rw h

pub constant_selfadjoint : (c : ℤ) → constant 4 c ≡ adjoint (constant 4 c)
unfolding constant adjoint
constant_selfadjoint c = refl
