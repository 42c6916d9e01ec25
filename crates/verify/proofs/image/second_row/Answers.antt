use Rattle.key.specs.Gramheld.{gram_of}
use Rattle.verify.proofs.Lengths.{words_are, star_shown}
use Rattle.verify.proofs.image.second_row.Goals as goal

pub returns : goal.returns
returns c =
    let form = c.args.form.now in
    record {
      p_is = star_shown form.class _ _ _ c.requires.q_is c.requires.q_long c.requires.p_long form.small_q01 c.adjoint.ensures.answer;
      q_is = words_are _ _ _ (gram_of form).q11 c.q11.ensures.value c.q11.ensures.len c.requires.q_long c.widen.ensures;
    }
