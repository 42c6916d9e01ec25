use Rattle.std.proofs.Common.{◌∙◌, w64, SFits}
use Rattle.std.proofs.lemmas.Int.{to_z-of_z}
use Rattle.signing.proofs.Parities.{parity_is}
use Rattle.signing.proofs.bits.parity.Goals as goal

pub returns : goal.returns
returns g c =
    let wide : SFits w64 c.word.result = record { sfits = c.word.type_inv } in
    parity_is c.rem_euclid.result _ _ c.rem_euclid.ensures.value (to_z-of_z w64 c.word.result wide ∙ c.word.ensures)
