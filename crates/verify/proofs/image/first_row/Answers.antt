use Rattle.std.proofs.Common.{ap, ◌∙◌}
use Rattle.verify.specs.Images.{shown}
use Rattle.key.specs.Gramheld.{gram_of}
use Rattle.verify.proofs.Images.{shown_form}
use Rattle.verify.proofs.Lengths.{words_are}
use Rattle.verify.proofs.image.first_row.Goals as goal

pub returns : goal.returns
returns c =
    let form = c.args.form.now in
    let q00 = (gram_of form).q00 in
    record {
      p_is = ap shown (words_are _ _ _ q00 c.q00.ensures.value c.q00.ensures.len c.requires.p_long c.widen.ensures) ∙ shown_form q00 form.small_q00;
      q_is = words_are _ _ _ (gram_of form).q01 c.q01.ensures.value c.q01.ensures.len c.requires.q_long c.widen-2.ensures;
    }
