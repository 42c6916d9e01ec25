-- A scratch of the right length, and what is written then.
use Rattle.std.proofs.Common.{◌≡◌, ℕ, ◌*◌, List, [], ◌∷◌, ◌++◌, Some, None, Option, Ok, Err, Result, MatchResult, sym, refl, ap, ◌∙◌, arith}
use Rattle.std.proofs.lemmas.Bool.{eqb-true, eq-eqb}
use Rattle.ring.specs.Classes.{size_of}
use Rattle.ring.specs.Faults.{Answers, first_failing}
use Rattle.ring.specs.declared.class.Class.{Class}
use Rattle.ring.specs.declared.fault.Fault.{Fault}
use Rattle.ring.proofs.Firsts.{none_after, none_parts, first_before}
use Rattle.scheme.specs.Keys.{Gram, form_of}
use Rattle.slip.specs.Slips.{slip_tests, class_named, size_named}
use Rattle.slip.specs.declared.kind.Kind.TheVariants.{Key}
use Rattle.slip.specs.declared.fault.SlipFault.{SlipFault}
use Rattle.slip.specs.declared.reader.Slip.{Slip}
use Rattle.slip.specs.Reads.{Read}
use Rattle.slip.specs.Refusals.{slip_fault}
use Rattle.key.specs.Loading.{basis_in, scratch_test, body_tests, key_tests}
use Rattle.answers.specs.Lines.{form_line, refusal_line, measure_line}

-- where the slip was read, the size of its class
pub size_read : (file : List ℕ) (r : Result Slip SlipFault) (size : ℕ) → Answers slip_fault (slip_tests Key file) (λ s. Read Key file s) r
    → MatchResult r (λ s. size ≡ size_of s.class) (λ _. size ≡ 0) → first_failing (slip_tests Key file) ≡ None → size ≡ size_named file
size_read file (Ok s) size answer is passes = is ∙ sym answer.1.size
size_read file (Err e) size answer is passes = cc

pub size_is : (file : List ℕ) (class : Class) → class_named file ≡ Some class → size_named file ≡ size_of class
unfolding size_named
size_is file class e = rw e

pub right_length : (file : List ℕ) (words : ℕ) → first_failing (key_tests file words) ≡ None → words ≡ 4 * size_named file
unfolding key_tests
right_length file words none =
    let after = none_after (slip_tests Key file) (scratch_test (size_named file) words ∷ body_tests file) none in
    eqb-true words (4 * size_named file) (none_parts (scratch_test (size_named file) words) (body_tests file) after.1).0

pub scratch_passes : (n words : ℕ) → words ≡ 4 * n → first_failing (scratch_test n words ∷ []) ≡ None
scratch_passes n words e = let on = eq-eqb words (4 * n) e in rw on

-- the scratch matters only where the slip passes
pub same_first : (file : List ℕ) (words : ℕ) → (first_failing (slip_tests Key file) ≡ None → words ≡ 4 * size_named file) → first_failing (key_tests file words) ≡ first_failing (key_tests file (4 * size_named file))
unfolding key_tests
same_first file words right = go (first_failing (slip_tests Key file)) refl
  where
    go : (o : Option Fault) → first_failing (slip_tests Key file) ≡ o → first_failing (slip_tests Key file ++ (scratch_test (size_named file) words ∷ body_tests file)) ≡ first_failing (slip_tests Key file ++ (scratch_test (size_named file) (4 * size_named file) ∷ body_tests file))
    go None e = ap (λ w. first_failing (slip_tests Key file ++ (scratch_test (size_named file) w ∷ body_tests file))) (right e)
    go (Some f) e =
        first_before (slip_tests Key file) (scratch_test (size_named file) words ∷ body_tests file) f e
        ∙ sym (first_before (slip_tests Key file) (scratch_test (size_named file) (4 * size_named file) ∷ body_tests file) f e)

pub line_of_form : (file : List ℕ) (words : ℕ) (class : Class) (q : Gram) → first_failing (key_tests file words) ≡ None → class_named file ≡ Some class → q ≡ form_of (basis_in file) → form_line class q ≡ measure_line file
unfolding measure_line
line_of_form file words class q none named is =
    let tests : first_failing (key_tests file (4 * size_named file)) ≡ None = ap (λ w. first_failing (key_tests file w)) (sym (right_length file words none)) ∙ none in
    rw (tests, named, ← is)

pub line_of_refusal : (file : List ℕ) (words : ℕ) (f : Fault) → (first_failing (slip_tests Key file) ≡ None → words ≡ 4 * size_named file) → first_failing (key_tests file words) ≡ Some f → refusal_line f ≡ measure_line file
unfolding measure_line
line_of_refusal file words f right some =
    let tests : first_failing (key_tests file (4 * size_named file)) ≡ Some f = sym (same_first file words right) ∙ some in
    rw tests

pub never : {X : Type 0} (n words : ℕ) (f : Fault) → words ≡ 4 * n → first_failing (scratch_test n words ∷ []) ≡ Some f → X
never n words f e some = absurd (let clash : None ≡ Some f = sym (scratch_passes n words e) ∙ some in let z : ◌≡◌ {A = ℕ} 0 1 = cc in omega arith)
