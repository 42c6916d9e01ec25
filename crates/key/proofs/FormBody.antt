-- The tests of a form slip's body, put together.
use Rattle.std.proofs.Common.{◌≡◌, ℕ, List, [], ◌∷◌, length, ℤ, Some, None}
use Rattle.std.proofs.lemmas.Bool.{eqb-true}
use Rattle.ring.specs.Elements.{adjoint}
use Rattle.ring.specs.Faults.{first_failing}
use Rattle.ring.specs.declared.fault.Fault.{Fault}
use Rattle.ring.proofs.Firsts.{first_before, none_parts}
use Rattle.scheme.specs.Keys.{form_limit}
use Rattle.key.specs.FormLoading.{form_numbers_in, form_range_test, first_unlike, adjoint_test, adjoint_tests, form_body_tests}
use Rattle.key.proofs.Adjoints.{selfadjoint_from}
use Rattle.key.proofs.Taking.{Element}

-- the tests of a body, one after the other
module _ (file : List ℕ) where
  pub form_stops_0 : (e : Fault) → first_failing (form_range_test file 0 ∷ []) ≡ Some e → first_failing (form_body_tests file) ≡ Some e
  unfolding form_body_tests
  form_stops_0 e h = first_before (form_range_test file 0 ∷ []) (form_range_test file 1 ∷ form_range_test file 2 ∷ adjoint_tests (form_numbers_in file 0) (form_numbers_in file 2)) e h

  module _ {n : ℕ} where
    pub form_stops_1 : (e : Fault) (q00 : List ℤ) → Element form_limit n (form_numbers_in file 0) q00 → first_failing (form_range_test file 1 ∷ []) ≡ Some e → first_failing (form_body_tests file) ≡ Some e
    unfolding form_body_tests
    form_stops_1 e q00 t h = rw t.small (first_before (form_range_test file 1 ∷ []) (form_range_test file 2 ∷ adjoint_tests (form_numbers_in file 0) (form_numbers_in file 2)) e h)

    pub form_stops_2 : (e : Fault) (q00 q01 : List ℤ) → Element form_limit n (form_numbers_in file 0) q00 → Element form_limit n (form_numbers_in file 1) q01 → first_failing (form_range_test file 2 ∷ []) ≡ Some e → first_failing (form_body_tests file) ≡ Some e
    unfolding form_body_tests
    form_stops_2 e q00 q01 t u h = rw (t.small, u.small) (first_before (form_range_test file 2 ∷ []) (adjoint_tests (form_numbers_in file 0) (form_numbers_in file 2)) e h)

    pub after_form_ranges : (q00 q01 q11 : List ℤ) → Element form_limit n (form_numbers_in file 0) q00 → Element form_limit n (form_numbers_in file 1) q01 → Element form_limit n (form_numbers_in file 2) q11 → first_failing (form_body_tests file) ≡ first_failing (adjoint_tests (form_numbers_in file 0) (form_numbers_in file 2))
    unfolding form_body_tests
    after_form_ranges q00 q01 q11 t u v = rw (t.small, u.small, v.small)

pub same_adjoints : (p00 p11 q00 q11 : List ℤ) → p00 ≡ q00 → p11 ≡ q11 → first_failing (adjoint_tests q00 q11) ≡ first_failing (adjoint_tests p00 p11)
same_adjoints p00 p11 q00 q11 e h = rw (e, h)

pub adjoint_parts : (q00 q11 : List ℤ) → first_failing (adjoint_tests q00 q11) ≡ None → (q00 ≡ adjoint q00) × (q11 ≡ adjoint q11)
adjoint_parts q00 q11 none =
    let p = none_parts (adjoint_test 0 q00) (adjoint_test (length q00) q11 ∷ []) none in
    let q = none_parts (adjoint_test (length q00) q11) [] p.1 in
    (selfadjoint_from q00 (eqb-true (first_unlike q00) (length q00) p.0), selfadjoint_from q11 (eqb-true (first_unlike q11) (length q11) q.0))
