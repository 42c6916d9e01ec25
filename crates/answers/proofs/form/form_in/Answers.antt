use Rattle.std.proofs.Common.{◌≡◌, ◌*◌, length, ap, ◌∙◌}
use Rattle.std.proofs.lemmas.List.{length-replicate}
use Rattle.ring.specs.Classes.{size_of}
use Rattle.answers.proofs.Scratches.{never, right_length, size_is}
use Rattle.answers.proofs.form.form_in.Goals as goal

pub returns-in_err-make_form : goal.returns-in_err-make_form
returns-in_err-make_form c =
    let file = c.args.file.now in
    let loaded = c.in_ok-load.ensures.answer in
    let kept : length c.load.new.scratch ≡ length c.args.scratch.now = ap length c.in_ok-load.ensures.wiped ∙ length-replicate (length c.args.scratch.now) _ in
    let right = right_length file (length c.args.scratch.now) loaded.0 in
    let size = size_is file c.load.new.self.class loaded.1.class in
    never (size_of c.load.new.self.class) (length c.load.new.scratch) _ (kept ∙ right ∙ ap (λ n. 4 * n) size) c.in_err-make_form.ensures.answer
