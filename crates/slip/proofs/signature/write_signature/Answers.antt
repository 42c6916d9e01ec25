use Rattle.std.proofs.Common.{◌≡◌, ◌++◌, length, Some, sym, ap, ◌∙◌, arith, rules}
use Rattle.slip.specs.declared.kind.Kind.TheVariants.{Signature}
use Rattle.slip.specs.Numbers.{bytes32}
use Rattle.slip.specs.Signatures.{signature_class, write_tests, signature_slip, trailer_in}
use Rattle.slip.specs.Writes.{trailer_of}
use Rattle.slip.proofs.Pairs.{pair_count, slip_written, reads_as}
use Rattle.slip.proofs.signature.write_signature.Goals as goal

pub returns-in_err-class : goal.returns-in_err-class
unfolding write_tests
returns-in_err-class c = search rules

pub returns-then-area-body_length : goal.returns-then-area-body_length
unfolding write_tests
returns-then-area-body_length c = search (rules, pair_count)

pub put_numbers-requires : goal.put_numbers-requires
put_numbers-requires c = search (rules, pair_count)

pub returns : goal.returns
unfolding write_tests signature_slip
returns c =
    let e : signature_class (length c.args.numbers.now) ≡ Some c.in_ok-class.class = search rules in
    let n = pair_count (length c.args.numbers.now) c.in_ok-class.class e in
    let a : c.put_trailer.new.area ≡ bytes32 c.args.numbers.now ++ trailer_of Signature c.in_ok-class.class =
    slip_written c.args.numbers.now c.in_ok-class.class c.args.area.now c.put_numbers.new.area c.put_trailer.new.area
    e (omega arith) c.put_numbers.ensures.after c.put_trailer.ensures in
    record {
      answer = (search rules, a ∙ sym (ap (λ o. bytes32 c.args.numbers.now ++ trailer_in o) e));
      kept = tt;
      back = λ report. reads_as report c.args.numbers.now c.in_ok-class.class (report ++ c.put_trailer.new.area) e
          c.put_numbers.ensures.back (ap (λ l. report ++ l) a);
    }
