use Rattle.std.proofs.Common.{refl}
use Rattle.ring.specs.Elements.{dot, crossed, coefficient, product, sum, negative, difference, adjoint, constant, total}
use Rattle.ring.specs.Kinds.{rest}
use Rattle.scheme.specs.Hashes.{hash_bit, hash_pair}
use Rattle.scheme.specs.Keys.{determinant, form_of}
use Rattle.scheme.specs.Matrices.{applied, basis_of, inverse_of, form_matrix, pairing, squared_length}
use Rattle.scheme.specs.Pairs.{pair_from, numbers_of, opposite, less_twice, half_less, parities, leader}
use Rattle.scheme.specs.Sessions.{opened}
use Rattle.scheme.specs.Signing.{target_of, source_of, changes, oriented, signature_of, length_of}
use Rattle.scheme.specs.Steps.{standing_pair, listed, announce_tests, target_tests, sample_tests, sign_tests, withdraw_tests, work, step, run}
use Rattle.scheme.specs.Verdicts.{point_of, image_of, length_under, verdict_tests, verify_tests}
use Rattle.key.specs.Loading.{excess, sound_tests}
use Rattle.key.specs.Resting.{resting_basis}
use Rattle.examples.proofs.worked_examples.Goals as goal

pub returns : goal.returns
unfolding dot crossed coefficient product sum negative difference adjoint constant total rest hash_bit hash_pair determinant form_of applied basis_of inverse_of form_matrix pairing squared_length pair_from numbers_of opposite less_twice half_less parities leader opened target_of source_of changes oriented signature_of length_of standing_pair listed announce_tests target_tests sample_tests sign_tests withdraw_tests work step run point_of image_of length_under verdict_tests verify_tests excess sound_tests resting_basis
returns c = record {
  form = refl;
  target_11 = refl;
  changed = refl;
  changed_signature = refl;
  kept = refl;
  kept_signature = refl;
  other_coset = record { answer = refl; area = refl };
  too_long = record { answer = refl; area = refl };
  longest = refl;
  longest_signature = refl;
  no_sign = record { answer = refl; area = refl };
  accepted = refl;
  accepted_length = refl;
  mirrored = refl;
  same_form = refl;
  turned = refl;
  turned_signature = refl;
  no_determinant = refl;
  even_sum = refl;
  negative_length = refl;
  negative_refused = refl;
}
