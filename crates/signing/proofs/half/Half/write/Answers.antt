use Rattle.std.proofs.Common.{pos, ◌∙◌, arith, w32, w64, SFits}
use Rattle.std.proofs.lemmas.Int.{to_z-of_z}
use Rattle.signing.specs.Rows.{half_from}
use Rattle.key.proofs.Copies.{copied_more, copied_all}
use Rattle.signing.proofs.Halves.{length_half, half_at}
use Rattle.signing.proofs.half.Half.write.Goals as goal

pub loop-k-preserved : goal.loop-k-preserved
loop-k-preserved c =
    let h = c.args.self.now in
    let v = c.args.row.now in
    let size = length_half h.hash.now h.from h.changed v in
    let fits : SFits w64 c.at.result = record { sfits = c.at.type_inv } in
    let narrow : SFits w32 c.at-in-loop-k.result = record { sfits = c.at-in-loop-k.type_inv } in
    copied_more c.loop-k.area (half_from h.hash.now h.from h.changed v) c.loop-k.k _ (pos 0) (omega arith) (omega (arith, size))
    (to_z-of_z w32 c.at-in-loop-k.result narrow ∙ c.at-in-loop-k.ensures
    ∙ half_at h.hash.now h.from h.changed v c.loop-k.k _ (omega arith) (to_z-of_z w64 c.at.result fits ∙ c.at.ensures.value)) c.loop-k.invariant

pub returns : goal.returns
returns c =
    let h = c.args.self.now in
    let v = c.args.row.now in
    let size = length_half h.hash.now h.from h.changed v in
    copied_all c.loop-k.area (half_from h.hash.now h.from h.changed v) c.loop-k.k (omega arith) (omega (arith, size)) c.loop-k.invariant
