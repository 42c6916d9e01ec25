use Rattle.std.proofs.Common.{◌≡◌, Bool, List, map, length, ℤ, pos, Err, sym, ap, ◌∙◌, rules}
use Rattle.std.proofs.lemmas.List.{map-id}
use Rattle.ring.specs.Classes.{size_of}
use Rattle.scheme.specs.Keys.{all_within}
use Rattle.scheme.specs.Refusals.{check_fault}
use Rattle.scheme.specs.Verdicts.{signature_limit, length_under, point_of, verdict_tests, verify_tests}
use Rattle.scheme.specs.declared.fault.CheckFault.TheVariants.{Length, Range}
use Rattle.key.specs.Gramheld.{gram_of}
use Rattle.verify.proofs.Meanings.{limits_harmless, meant}
use Rattle.verify.proofs.Verdicts.{wrong_sizes, out_of_range, to_verdict, answers_same}
use Rattle.verify.proofs.verdict.verify.Goals as goal

-- the test on the numbers, which are themselves their values
limit_read : {t : Bool} (s : List ℤ) → t ≡ all_within signature_limit (map (λ x. x) s) → all_within signature_limit s ≡ t
limit_read s e = sym (e ∙ ap (all_within signature_limit) (map-id s))

pub returns-then-not-sizes_fit : goal.returns-then-not-sizes_fit
returns-then-not-sizes_fit c =
    let form = c.args.form.now in
    let q = gram_of form in
    let hash = c.args.hash.now in
    let s = c.args.signature.now in
    let words = length c.args.scratch.now in
    let verdict = wrong_sizes form.class q hash s words (sym c.if-not-sizes_fit.ensures) in
    record { verdict = verdict; wiped = search rules; limits = limits_harmless form.class q hash s; issued = meant form.class q hash s words (Err Length) verdict }

pub returns-then-not-all_within : goal.returns-then-not-all_within
returns-then-not-all_within c =
    let form = c.args.form.now in
    let q = gram_of form in
    let hash = c.args.hash.now in
    let s = c.args.signature.now in
    let words = length c.args.scratch.now in
    let verdict = out_of_range form.class q hash s words (sym c.if-not-sizes_fit.ensures) (limit_read s c.if-not-all_within.ensures) in
    record { verdict = verdict; wiped = search rules; limits = limits_harmless form.class q hash s; issued = meant form.class q hash s words (Err Range) verdict }

pub returns : goal.returns
returns c =
    let form = c.args.form.now in
    let q = gram_of form in
    let hash = c.args.hash.now in
    let s = c.args.signature.now in
    let words = length c.args.scratch.now in
    let point = point_of (size_of form.class) hash s in
    let same = to_verdict form.class q hash s words (sym c.if-not-sizes_fit.ensures) (limit_read s c.if-not-all_within.ensures) in
    let verdict = answers_same check_fault (verdict_tests form.class q point) (verify_tests form.class q hash s words) (λ N. length_under q point ≡ pos N) c.judged.result same c.judged.ensures in
    record { verdict = verdict; wiped = search rules; limits = limits_harmless form.class q hash s; issued = meant form.class q hash s words c.judged.result verdict }
