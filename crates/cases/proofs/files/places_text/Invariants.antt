use Rattle.std.proofs.Common.{◌≡◌, ◌++◌, ◌-◌, string_bytes, codes, decimal}
use Rattle.std.specs.List.{flat_map, range_with_len}
use Rattle.ring.specs.Classes.{size_of}
use Rattle.slip.specs.Slips.{section_place}
use Rattle.cases.proofs.files.places_text.Given as goal

abbrev pub invariant-loop-i : goal.invariant-loop-i
invariant-loop-i l =
    string_bytes l.text ≡ decimal (section_place l.slip.kind (size_of l.slip.class) l.slip.file.now 0)
    ++ flat_map (λ i. codes "," ++ decimal (section_place l.slip.kind (size_of l.slip.class) l.slip.file.now i)) (range_with_len 1 (l.i - 1))
