use Rattle.std.proofs.Common.{◌≡◌, ◌+◌, ◌-◌, ◌*◌, length, sym, ◌∙◌, arith}
use Rattle.std.proofs.lemmas.Bool.{eq-eqb}
use Rattle.ring.specs.Classes.{size_of}
use Rattle.slip.specs.Numbers.{bytes8, numbers8}
use Rattle.slip.specs.Writes.{trailer_of, written}
use Rattle.slip.specs.declared.kind.Kind.TheVariants.{Key}
use Rattle.slip.proofs.Bytes.{length_bytes8}
use Rattle.slip.proofs.Trailers.{length_trailer}
use Rattle.key.specs.Held.{basis_of}
use Rattle.key.specs.Writing.{key_slip}
use Rattle.key.proofs.ReadBack.{reads, Reads8, key_passes, basis_back, key_loads}
use Rattle.key.proofs.Written.{was_put, four_written}
use Rattle.key.proofs.key.Key.write.Goals as goal

pub returns : goal.returns
unfolding key_slip
returns c =
    let key = c.args.self.now in
    let class = key.class in
    let n = c.size-n.result in
    let area = c.args.area.now in
    let f = c.f.result.now in
    let g = c.g.result.now in
    let F = c.cap_f.result.now in
    let G = c.cap_g.result.now in
    let a1 = c.write_numbers.new.area in
    let a2 = c.write_numbers-2.new.area in
    let a3 = c.write_numbers-3.new.area in
    let a4 = c.write_numbers-4.new.area in
    let a5 = c.write_trailer.new.area in
    let lf : length f ≡ n = c.f.ensures.len ∙ sym c.size-n.ensures in
    let lg : length g ≡ n = c.g.ensures.len ∙ sym c.size-n.ensures in
    let lF : length F ≡ n = c.cap_f.ensures.len ∙ sym c.size-n.ensures in
    let lG : length G ≡ n = c.cap_g.ensures.len ∙ sym c.size-n.ensures in
    let w1 = was_put (0 + 1 * length f) area (a1 ≡ written 0 (bytes8 f) area) (numbers8 (bytes8 f) ≡ f) c.write_numbers.result (omega arith) c.write_numbers.ensures.answer c.write_numbers.ensures.back in
    let w2 = was_put (n + 1 * length g) a1 (a2 ≡ written n (bytes8 g) a1) (numbers8 (bytes8 g) ≡ g) c.write_numbers-2.result (omega arith) c.write_numbers-2.ensures.answer c.write_numbers-2.ensures.back in
    let w3 = was_put (2 * n + 1 * length F) a2 (a3 ≡ written (2 * n) (bytes8 F) a2) (numbers8 (bytes8 F) ≡ F) c.write_numbers-3.result (omega arith) c.write_numbers-3.ensures.answer c.write_numbers-3.ensures.back in
    let w4 = was_put (3 * n + 1 * length G) a3 (a4 ≡ written (3 * n) (bytes8 G) a3) (numbers8 (bytes8 G) ≡ G) c.write_numbers-4.result (omega arith) c.write_numbers-4.ensures.answer c.write_numbers-4.ensures.back in
    let w5 = was_put 8 a4 (a5 ≡ written (length a4 - 8) (trailer_of Key class) a4) _ c.write_trailer.result (omega arith) c.write_trailer.ensures.answer c.write_trailer.ensures.passes in
    let whole = four_written n (bytes8 f) (bytes8 g) (bytes8 F) area a1 a2 a3 (length_bytes8 f ∙ lf) (length_bytes8 g ∙ lg) (length_bytes8 F ∙ lF) w1.0 w2.0 w3.0
    (bytes8 G) (trailer_of Key class) a4 a5 (length_bytes8 G ∙ lG) (length_trailer Key class) c.if-area-n.false w4.0 w5.0 in
    let slip : a5 ≡ key_slip class (basis_of key) = whole ∙ rw (c.f.ensures.value, c.g.ensures.value, c.cap_f.ensures.value, c.cap_g.ensures.value) in
    let rf : Reads8 class (basis_of key).f = reads class f (basis_of key).f c.f.ensures.value c.f.ensures.len key.small_f w1.1 in
    let rg : Reads8 class (basis_of key).g = reads class g (basis_of key).g c.g.ensures.value c.g.ensures.len key.small_g w2.1 in
    let rF : Reads8 class (basis_of key).F = reads class F (basis_of key).F c.cap_f.ensures.value c.cap_f.ensures.len key.small_cap_f w3.1 in
    let rG : Reads8 class (basis_of key).G = reads class G (basis_of key).G c.cap_g.ensures.value c.cap_g.ensures.len key.small_cap_g w4.1 in
    let fits = eq-eqb (length area) (4 * size_of class + 8) (omega (arith, c.size-n.ensures)) in
    record {
      answer = (rw fits, slip);
      kept = tt;
      back = record {
        passes = key_loads class (basis_of key) a5 slip rf rg rF rG key.odd_f key.odd_g key.unit_determinant;
        named = (key_passes class (basis_of key) a5 slip rf rg rF rG).named;
        same = basis_back class (basis_of key) a5 slip rf rg rF rG;
      };
    }
