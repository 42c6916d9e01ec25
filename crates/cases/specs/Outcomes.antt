-- The outcome of a case, by its verb. Assumes nothing.
use Rattle.std.specs.Prelude.{ℕ, cond, List, Option}
use Rattle.key.specs.Loading.{key_tests}
use Rattle.key.specs.FormLoading.{form_tests}
use Rattle.cases.specs.Rings.{is, ring_outcome}
use Rattle.cases.specs.Slips.{read_outcome, read_signature_outcome, write_signature_outcome}
use Rattle.cases.specs.Places.{load_outcome, write_key_outcome, write_form_outcome, make_form_outcome, verify_outcome, measure_outcome}

-- the text of the outcome, where the verb is known and its operands can be read
abbrev pub outcome_of : List ℕ → List ℕ → Option (List ℕ)
outcome_of verb fields =
    cond (is verb "read") (read_outcome fields)
    (cond (is verb "read-sig") (read_signature_outcome fields)
    (cond (is verb "write-sig") (write_signature_outcome fields)
    (cond (is verb "load-key") (load_outcome key_tests fields)
    (cond (is verb "load-form") (load_outcome form_tests fields)
    (cond (is verb "make-form") (make_form_outcome fields)
    (cond (is verb "write-key") (write_key_outcome fields)
    (cond (is verb "write-form") (write_form_outcome fields)
    (cond (is verb "verify") (verify_outcome fields)
    (cond (is verb "measure") (measure_outcome fields) (ring_outcome verb fields))))))))))
