use Rattle.std.proofs.Common.{◌≡◌, ℕ, List, [], ◌++◌, length, sym, ap, ◌∙◌, arith, rules, append_assoc, append-nil}
use Rattle.std.proofs.Output.{has_written_append, has_written_of_eq}
use Rattle.std.proofs.lemmas.List.{nil_from_length}
use Rattle.std.proofs.lemmas.Str.{IsUtf8-from_ascii}
use Rattle.std.specs.Slice.Iter.{chunks_rest}
use Rattle.script.specs.Hexadecimal.{hex_digits}
use Rattle.script.proofs.Texts.{digits_none, digits-append, text_none, text_some}
use Rattle.script.proofs.hex.HexDisplay.fmt.Goals as goal

pub returns-then-is_empty-clause-writes : goal.returns-then-is_empty-clause-writes
returns-then-is_empty-clause-writes g c = search (rules, text_none)

pub unreachable-requires : goal.unreachable-requires
unreachable-requires g c = c.in_default.ensures.cases.0 (IsUtf8-from_ascii _ c.write_digits.ensures.ascii)

pub loop-group-init : goal.loop-group-init
loop-group-init g c = (search rules, tt, search rules, λ plain. ([], search rules, search rules))

pub loop-group-preserved : goal.loop-group-preserved
loop-group-preserved g c =
    let group = c.in-Some.group.now in
    let steps = c.in-Some.ensures.steps in
    let size = c.loop-group.invariant.2 in
    let shown : c.in-Ok.text.now ≡ hex_digits group = c.in-Ok.ensures.cases.0 ∙ c.write_digits.ensures.text in (
      search rules,
      tt,
      steps.0 ∙ size,
      λ plain.
          let so_far = c.loop-group.invariant.3 plain in (
            so_far.0 ++ c.in-Ok.text.now,
            has_written_append _ _ _ _ _ _ so_far.1 (search rules),
            append_assoc so_far.0 _ _
                ∙ ap (λ (t : List ℕ). so_far.0 ++ t)
                (rw shown (sym (digits-append group (chunks_rest c.next.new.self)) ∙ ap hex_digits (sym steps.1.0)))
                ∙ so_far.2,
          ),
    )

pub returns-clause-writes : goal.returns-clause-writes
returns-clause-writes g c = λ plain _.
    let so_far = c.loop-group.invariant.3 plain in
    let none = nil_from_length _ c.in-None.ensures.steps.1.0 in
    has_written_of_eq _ _ _ _ _ (rw (none, digits_none, append-nil) at so_far.2 ∙ sym (text_some c.args.self.now.0.now (λ empty. search rules))) so_far.1
