use Rattle.std.proofs.Common.{◌≡◌, ◌++◌, ◌∷◌, string_bytes, codes, decimal, ap, ◌∙◌, arith}
use Rattle.ring.specs.Classes.{size_of}
use Rattle.slip.specs.Kinds.{sections_of}
use Rattle.slip.specs.Slips.{section_place}
use Rattle.cases.specs.Slips.{places_text}
use Rattle.cases.proofs.Places.{more_places, some_section}
use Rattle.cases.proofs.files.places_text.Goals as goal

pub loop-i-preserved : goal.loop-i-preserved
loop-i-preserved c =
    let slip = c.args.slip.now in
    let place : c.unwrap-in-loop-i.result.place ≡ section_place slip.kind (size_of slip.class) slip.file.now c.loop-i.i = (rw c.unwrap-in-loop-i.ensures at c.section-in-loop-i.ensures.part).1.from in
    more_places (λ i. codes "," ++ decimal (section_place slip.kind (size_of slip.class) slip.file.now i)) (decimal (section_place slip.kind (size_of slip.class) slip.file.now 0)) (string_bytes c.loop-i.text)
    (string_bytes c.write.new.self) c.loop-i.i c.loop-i.auto.i c.loop-i.invariant (c.in_ok-write.ensures.bytes ∙ ap (λ n. string_bytes c.loop-i.text ++ (44 ∷ decimal n)) place)

pub returns : goal.returns
unfolding places_text
returns c =
    let sections : c.sections-i-end.result ≡ sections_of c.args.slip.now.kind = c.sections-i-end.ensures ∙ ap sections_of c.kind.ensures in
    let end : c.loop-i.i ≡ sections_of c.args.slip.now.kind = omega (arith, sections, some_section c.args.slip.now.kind) in
    rw (← end) c.loop-i.invariant
