use Rattle.std.proofs.Common.{◌≡◌, length, take, drop, ap, ◌∙◌, arith}
use Rattle.std.proofs.lemmas.List.{length-take-le, length-drop}
use Rattle.ring.specs.Classes.{size_of}
use Rattle.ring.proofs.Fronts.{widened}
use Rattle.scheme.specs.Hashes.{hash_pair}
use Rattle.scheme.specs.Keys.{all_within}
use Rattle.key.specs.Held.{basis_of}
use Rattle.signing.specs.Rows.{sample_limit}
use Rattle.signing.proofs.Outcomes.{pair_answer}
use Rattle.signing.proofs.Squares.{parts_small}
use Rattle.signing.proofs.sign.sign_short.Goals as goal

pub sign_pair-requires : goal.sign_pair-requires
sign_pair-requires c =
    let class = c.args.key.now.class in
    let sample = c.args.sample.now in
    let n = size_of class in
    let size : c.size-n.result ≡ n = c.size-n.ensures ∙ ap size_of c.class.ensures.class in
    let front = c.split_at.ensures.front_len in
    let back = c.split_at.ensures.back_len in
    let first : c.widen.new.words ≡ take n sample = c.widen.ensures ∙ widened c.split_at.result.0.now _ (omega (arith, c.split_at_mut-x0.ensures.front_len)) ∙ c.split_at.ensures.front ∙ ap (λ k. take k sample) size in
    let second : c.widen-2.new.words ≡ drop n sample = c.widen-2.ensures ∙ widened c.split_at.result.1.now _ (omega (arith, size, c.split_at_mut-x1.ensures.front_len, c.requires.sized.sample_long)) ∙ c.split_at.ensures.back ∙ ap (λ k. drop k sample) size in
    let small = parts_small class n sample c.requires.bounded in
    record {
      x0_long = ap length first ∙ length-take-le n sample (omega (arith, c.requires.sized.sample_long));
      x1_long = ap length second ∙ length-drop n sample ∙ omega (arith, c.requires.sized.sample_long);
      area_long = c.requires.sized.area_long;
      words_long = omega (arith, c.split_at_mut-x1.ensures.back_len, c.split_at_mut-x0.ensures.back_len, c.requires.sized.words_long, size);
      x0_small = ap (all_within sample_limit) first ∙ small.0;
      x1_small = ap (all_within sample_limit) second ∙ small.1;
    }

pub returns-clause-answer : goal.returns-clause-answer
returns-clause-answer c =
    let key = c.args.key.now in
    let sample = c.args.sample.now in
    let n = size_of key.class in
    let size : c.size-n.result ≡ n = c.size-n.ensures ∙ ap size_of c.class.ensures.class in
    let front = c.split_at.ensures.front_len in
    let back = c.split_at.ensures.back_len in
    let first : c.widen.new.words ≡ take n sample = c.widen.ensures ∙ widened c.split_at.result.0.now _ (omega (arith, c.split_at_mut-x0.ensures.front_len)) ∙ c.split_at.ensures.front ∙ ap (λ k. take k sample) size in
    let second : c.widen-2.new.words ≡ drop n sample = c.widen-2.ensures ∙ widened c.split_at.result.1.now _ (omega (arith, size, c.split_at_mut-x1.ensures.front_len, c.requires.sized.sample_long)) ∙ c.split_at.ensures.back ∙ ap (λ k. drop k sample) size in
    pair_answer (basis_of key) (hash_pair n c.args.hash.now) n sample c.widen.new.words c.widen-2.new.words c.sign_pair.new.area c.sign_pair.result first second c.sign_pair.ensures.answer
