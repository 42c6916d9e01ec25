use Rattle.std.proofs.Common.{◌≡◌, ◌+◌, ◌-◌, ◌*◌, length, sym, ap, ◌∙◌, arith}
use Rattle.std.proofs.lemmas.Bool.{eq-eqb}
use Rattle.ring.specs.Classes.{size_of}
use Rattle.slip.specs.Numbers.{bytes32, numbers32}
use Rattle.slip.specs.Writes.{trailer_of, written}
use Rattle.slip.specs.declared.kind.Kind.TheVariants.{Form}
use Rattle.slip.proofs.Bytes.{length_bytes32}
use Rattle.slip.proofs.Trailers.{length_trailer}
use Rattle.key.specs.Gramheld.{gram_of}
use Rattle.key.specs.Writing.{form_slip}
use Rattle.key.proofs.ReadBack.{reads, Reads32, form_passes, gram_back, form_loads}
use Rattle.key.proofs.Written.{was_put, three_written}
use Rattle.key.proofs.form.Form.write.Goals as goal

pub returns : goal.returns
unfolding form_slip
returns c =
    let form = c.args.self.now in
    let class = form.class in
    let p = c.section_length-part.result in
    let area = c.args.area.now in
    let q00 = c.used.result.now in
    let q01 = c.used-2.result.now in
    let q11 = c.used-3.result.now in
    let a1 = c.write_numbers.new.area in
    let a2 = c.write_numbers-2.new.area in
    let a3 = c.write_numbers-3.new.area in
    let a4 = c.write_trailer.new.area in
    let size : p ≡ 4 * size_of class = c.section_length-part.ensures in
    let l00 : length (bytes32 q00) ≡ p = length_bytes32 q00 ∙ ap (λ n. 4 * n) c.used.ensures.len ∙ sym size in
    let l01 : length (bytes32 q01) ≡ p = length_bytes32 q01 ∙ ap (λ n. 4 * n) c.used-2.ensures.len ∙ sym size in
    let l11 : length (bytes32 q11) ≡ p = length_bytes32 q11 ∙ ap (λ n. 4 * n) c.used-3.ensures.len ∙ sym size in
    let w1 = was_put (0 + 4 * length q00) area (a1 ≡ written 0 (bytes32 q00) area) (numbers32 (bytes32 q00) ≡ q00) c.write_numbers.result (omega (arith, length_bytes32 q00)) c.write_numbers.ensures.answer c.write_numbers.ensures.back in
    let w2 = was_put (p + 4 * length q01) a1 (a2 ≡ written p (bytes32 q01) a1) (numbers32 (bytes32 q01) ≡ q01) c.write_numbers-2.result (omega (arith, length_bytes32 q01)) c.write_numbers-2.ensures.answer c.write_numbers-2.ensures.back in
    let w3 = was_put (2 * p + 4 * length q11) a2 (a3 ≡ written (2 * p) (bytes32 q11) a2) (numbers32 (bytes32 q11) ≡ q11) c.write_numbers-3.result (omega (arith, length_bytes32 q11)) c.write_numbers-3.ensures.answer c.write_numbers-3.ensures.back in
    let w4 = was_put 8 a3 (a4 ≡ written (length a3 - 8) (trailer_of Form class) a3) _ c.write_trailer.result (omega arith) c.write_trailer.ensures.answer c.write_trailer.ensures.passes in
    let whole = three_written p (bytes32 q00) (bytes32 q01) (bytes32 q11) area a1 a2 a3 l00 l01 l11 w1.0 w2.0 w3.0 (trailer_of Form class) a4 (length_trailer Form class) c.if-area-part.false w4.0 in
    let slip : a4 ≡ form_slip class (gram_of form) = whole ∙ rw (c.used.ensures.value, c.used-2.ensures.value, c.used-3.ensures.value) in
    let r00 : Reads32 class (gram_of form).q00 = reads class q00 (gram_of form).q00 c.used.ensures.value c.used.ensures.len form.small_q00 w1.1 in
    let r01 : Reads32 class (gram_of form).q01 = reads class q01 (gram_of form).q01 c.used-2.ensures.value c.used-2.ensures.len form.small_q01 w2.1 in
    let r11 : Reads32 class (gram_of form).q11 = reads class q11 (gram_of form).q11 c.used-3.ensures.value c.used-3.ensures.len form.small_q11 w3.1 in
    let fits = eq-eqb (length area) (12 * size_of class + 8) (omega arith) in
    record {
      answer = (rw fits, slip);
      kept = tt;
      back = record {
        passes = form_loads class (gram_of form) a4 slip r00 r01 r11 form.selfadjoint_q00 form.selfadjoint_q11;
        named = (form_passes class (gram_of form) a4 slip r00 r01 r11).named;
        same = gram_back class (gram_of form) a4 slip r00 r01 r11;
      };
    }
