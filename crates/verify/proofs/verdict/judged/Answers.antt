use Rattle.std.proofs.Common.{ap, ◌∙◌}
use Rattle.ring.specs.Classes.{size_of}
use Rattle.verify.proofs.Verdicts.{halves}
use Rattle.verify.proofs.verdict.judged.Goals as goal

pub invariant_of-verdict_on : goal.invariant_of-verdict_on
invariant_of-verdict_on c =
    let n = c.size-n.ensures ∙ ap size_of c.class.ensures in
    let v = halves c.args.form.now.class c.size-n.result c.args.hash.now c.args.signature.now _ _ c.write_point.new.words c.write_point-2.new.words c.requires.signature n
    c.split_at.ensures.front c.split_at.ensures.back c.write_point.ensures c.write_point-2.ensures in
    record { first = v.first c.requires.range; second = v.second c.requires.range }

pub returns : goal.returns
returns c =
    let n = c.size-n.ensures ∙ ap size_of c.class.ensures in
    let v = halves c.args.form.now.class c.size-n.result c.args.hash.now c.args.signature.now _ _ c.write_point.new.words c.write_point-2.new.words c.requires.signature n
    c.split_at.ensures.front c.split_at.ensures.back c.write_point.ensures c.write_point-2.ensures in
    rw v.point c.verdict_on.ensures
