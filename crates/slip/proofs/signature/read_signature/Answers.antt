use Rattle.std.proofs.Common.{◌≡◌, ◌*◌, length, refl, ◌∙◌, arith, rules}
use Rattle.std.proofs.lemmas.Result.{err_from_is_err_and}
use Rattle.std.proofs.lemmas.Bool.Decides.{nat_tests}
use Rattle.slip.specs.declared.kind.Kind.TheVariants.{Signature}
use Rattle.slip.specs.Refusals.{slip_fault}
use Rattle.slip.specs.Signatures.{read_tests, signature_numbers}
use Rattle.slip.specs.Numbers.{numbers32}
use Rattle.slip.specs.Slips.{slip_tests, size_named, section_bytes}
use Rattle.slip.specs.Writes.{same_tests}
use Rattle.ring.proofs.Firsts.{first_after, first_before}
use Rattle.slip.proofs.signature.read_signature.Goals as goal

pub returns-in_err-slip : goal.returns-in_err-slip
unfolding read_tests
returns-in_err-slip c =
    let p = err_from_is_err_and c.from_residual.result c.from_residual.ensures.1 in
    rw (p.1, p.2) (record {
      answer = first_before (slip_tests Signature c.args.file.now) (same_tests (length c.args.numbers.now) (2 * size_named c.args.file.now))
          (slip_fault c.in_err-slip.field-0.0) c.in_err-slip.ensures;
      kept = refl;
    })

pub returns-then-numbers-n : goal.returns-then-numbers-n
unfolding read_tests
returns-then-numbers-n c =
    let h = c.in_ok-slip.ensures in
    let e = first_after (slip_tests Signature c.args.file.now) (same_tests (length c.args.numbers.now) (2 * size_named c.args.file.now)) h.0 in
    record { answer = e ∙ grind (arith, nat_tests); kept = refl }

pub returns : goal.returns
unfolding read_tests signature_numbers
returns c =
    let h = c.in_ok-slip.ensures in
    let e = first_after (slip_tests Signature c.args.file.now) (same_tests (length c.args.numbers.now) (2 * size_named c.args.file.now)) h.0 in
    let a : c.get_numbers.new.numbers ≡ numbers32 (section_bytes Signature (size_named c.args.file.now) c.args.file.now 0) = search rules in
    let b : c.get_numbers-2.new.numbers ≡ numbers32 (section_bytes Signature (size_named c.args.file.now) c.args.file.now 1) = search rules in
    record { answer = (e ∙ grind (arith, nat_tests), (search rules, cc)); kept = tt }
