use Rattle.std.proofs.Common.{◌≡◌, ℕ, List, [], ◌++◌, length, sym, ap, ◌∙◌, arith, rules, append_assoc, append-nil}
use Rattle.std.proofs.Output.{has_written_append, has_written_of_eq}
use Rattle.std.proofs.lemmas.List.{map-append, nil_from_length}
use Rattle.std.proofs.lemmas.Str.{IsUtf8-from_ascii}
use Rattle.std.specs.Slice.Iter.{chunks_rest}
use Rattle.script.specs.Replies.{bit_char, bit_text}
use Rattle.script.proofs.reply.BitsDisplay.fmt.Goals as goal

pub unreachable-requires : goal.unreachable-requires
unreachable-requires g c = c.in_default.ensures.cases.0 (IsUtf8-from_ascii _ c.write_bits.ensures.ascii)

pub loop-group-init : goal.loop-group-init
loop-group-init g c = (search rules, tt, search rules, λ plain. ([], search rules, search rules))

pub loop-group-preserved : goal.loop-group-preserved
loop-group-preserved g c =
    let group = c.in-Some.group.now in
    let steps = c.in-Some.ensures.steps in
    let size = c.loop-group.invariant.2 in
    let shown : c.in-Ok.text.now ≡ bit_text group = c.in-Ok.ensures.cases.0 ∙ c.write_bits.ensures.text in (
      search rules,
      tt,
      steps.0 ∙ size,
      λ plain.
          let so_far = c.loop-group.invariant.3 plain in (
            so_far.0 ++ c.in-Ok.text.now,
            has_written_append _ _ _ _ _ _ so_far.1 (search rules),
            append_assoc so_far.0 _ _
                ∙ ap (λ (t : List ℕ). so_far.0 ++ t)
                (rw shown (sym (map-append bit_char group (chunks_rest c.next.new.self)) ∙ ap bit_text (sym steps.1.0)))
                ∙ so_far.2,
          ),
    )

pub returns-clause-writes : goal.returns-clause-writes
returns-clause-writes g c = λ plain _.
    let so_far = c.loop-group.invariant.3 plain in
    let none = nil_from_length _ c.in-None.ensures.steps.1.0 in
    has_written_of_eq _ _ _ _ _ (rw (none, append-nil) at so_far.2) so_far.1
