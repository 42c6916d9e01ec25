-- The tests of a sample, from those that the work of signing makes.
use Rattle.std.proofs.Common.{◌≡◌, ℕ, true, List, ◌∷◌, length, ℤ, sym, ap, ◌∙◌}
use Rattle.std.proofs.lemmas.Bool.{eq-eqb}
use Rattle.ring.proofs.Firsts.{first_passes}
use Rattle.ring.specs.Classes.{size_of, hash_length_of}
use Rattle.ring.specs.Faults.{first_failing}
use Rattle.scheme.specs.Hashes.{hash_pair}
use Rattle.scheme.specs.Pairs.{pair_from}
use Rattle.scheme.specs.Sessions.{sign}
use Rattle.scheme.specs.Steps.{sample_tests, standing_pair}
use Rattle.session.specs.Asks.{fitting}
use Rattle.session.specs.Held.{state_of}
use Rattle.signing.specs.Sizes.{sign_sizes}
use Rattle.session.specs.declared.session.Session.{Session}
use Rattle.session.specs.declared.status.Status.TheVariants.{Standing}
use Rattle.session.proofs.Transitions.{class_in, basis_in, kept_in, kept_pair}

-- the lengths are right, and the hash is the standing order's
pub sample_tests_lem : (before : Session) (hash : List ℕ) (order : ℕ) (sample area : List ℤ) (words : ℕ)
    → before.status ≡ Standing → hash ≡ kept_in before → length hash ≡ hash_length_of (class_in before) → fitting (class_in before) (sign order sample area words) ≡ true
    → first_failing (sample_tests (class_in before) (basis_in before) (standing_pair (class_in before) (state_of before)) (pair_from (size_of (class_in before)) sample))
    ≡ first_failing (sign_sizes (class_in before) (length hash) (length sample) (length area) words
    ∷ sample_tests (class_in before) (basis_in before) (hash_pair (size_of (class_in before)) hash) (pair_from (size_of (class_in before)) sample))
sample_tests_lem before hash order sample area words stands is long fits =
    ap (λ h. first_failing (sample_tests (class_in before) (basis_in before) h (pair_from (size_of (class_in before)) sample))) (sym (kept_pair before stands is))
    ∙ sym (first_passes (sign_sizes (class_in before) (length hash) (length sample) (length area) words)
    (sample_tests (class_in before) (basis_in before) (hash_pair (size_of (class_in before)) hash) (pair_from (size_of (class_in before)) sample))
    (rw (eq-eqb (length hash) (hash_length_of (class_in before)) long) fits))
