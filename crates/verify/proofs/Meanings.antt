-- What the verdict means for the keys that have the form: by the theorems on acceptance.
use Rattle.std.proofs.Common.{◌≡◌, ℕ, ◌*◌, true, List, ◌∷◌, ℤ, pos, Some, None, Ok, Err, Option, Result, sym, ap, ◌∙◌, arith}
use Rattle.ring.specs.Classes.{size_of, bound_of}
use Rattle.ring.specs.Faults.{Answers, test, first_failing}
use Rattle.ring.specs.declared.class.Class.{Class}
use Rattle.ring.specs.declared.fault.Fault.{Fault}
use Rattle.ring.proofs.Firsts.{none_parts}
use Rattle.scheme.specs.Keys.{Gram, form_of, all_within}
use Rattle.scheme.specs.Pairs.{up_to}
use Rattle.scheme.specs.Refusals.{check_fault}
use Rattle.scheme.specs.Verdicts.{signature_limit, Accepted, length_under, point_of, verdict_tests, verify_sizes, verify_tests}
use Rattle.scheme.specs.declared.fault.CheckFault.{CheckFault}
use Rattle.scheme.specs.declared.fault.CheckFault.TheVariants.{Range}
use Rattle.acceptance.proofs.Accepting.{accepted_is_issued}
use Rattle.acceptance.proofs.Limits.{limits_never_refuse}
use Rattle.verify.specs.Meanings.{LimitsHarmless, Meant}
use Rattle.verify.proofs.Verdicts.{sizes_are}

module _ (class : Class) (q : Gram) (hash : List ℕ) (s : List ℤ) where
  pub limits_harmless : LimitsHarmless class q hash s
  limits_harmless b has long small =
      limits_never_refuse class b has.is_key hash s long
      (ap (λ f. up_to (bound_of class) (length_under f (point_of (size_of class) hash s))) has.form_is ∙ small)

  -- the scratch that passes the test of sizes has 4n words
  first_passes : (words : ℕ) → first_failing (verify_tests class q hash s words) ≡ None → (verify_sizes class hash s words).passes ≡ true
  unfolding verify_tests
  first_passes words e = (none_parts (verify_sizes class hash s words) (test (all_within signature_limit s) (check_fault Range) ∷ verdict_tests class q (point_of (size_of class) hash s)) e).0

  never_both : (o : Option Fault) (f : Fault) → o ≡ Some f → o ≡ None → ⊥
  never_both o f p r = let no : ◌≡◌ {A = ℕ} 0 1 = cc in omega arith

  pub meant : (words : ℕ) (r : Result ℕ CheckFault)
      → Answers check_fault (verify_tests class q hash s words) (λ N. length_under q (point_of (size_of class) hash s) ≡ pos N) r → Meant class q hash s words r
  meant words (Ok N) answer = λ b has log room area long.
      let none = answer.0 in
      let four : words ≡ 4 * size_of class = (sizes_are class hash s words (first_passes words none)).1 in
      (accepted_is_issued class b has.is_key hash s).issued N (record {
        passes = ap (λ f. first_failing (verify_tests class f hash s (4 * size_of class))) has.form_is ∙ ap (λ w. first_failing (verify_tests class q hash s w)) (sym four) ∙ none;
        length_is = ap (λ f. length_under f (point_of (size_of class) hash s)) has.form_is ∙ answer.1;
      }) log room area long
  meant words (Err e) failing = λ sizes b has log area sample N changed issues.
      let four : words ≡ 4 * size_of class = (sizes_are class hash s words sizes).1 in
      let accepted : Accepted class (form_of b) hash s N = (accepted_is_issued class b has.is_key hash s).accepted log area sample N changed issues in
      never_both (first_failing (verify_tests class q hash s words)) (check_fault e) failing
      (ap (λ w. first_failing (verify_tests class q hash s w)) four ∙ ap (λ f. first_failing (verify_tests class f hash s (4 * size_of class))) (sym has.form_is) ∙ accepted.passes)
