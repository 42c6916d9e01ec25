use Rattle.std.proofs.Common.{◌+◌, ◌*◌, ◌<◌, length, arith}
use Rattle.std.proofs.lemmas.Bool.Decides.{nat_tests}
use Rattle.slip.proofs.Runs.{no_room}
use Rattle.slip.proofs.numbers.write_numbers.Goals as goal
use Rattle.slip.proofs.numbers.write_numbers.Goals.{then-area-place-via-then-area-place, then-area-place-via-else-area-place+then-area-place-2}

pub returns-then-area-place-clause-answer : goal.returns-then-area-place-clause-answer
returns-then-area-place-clause-answer g c =
    let n = length c.args.numbers.now in
    let h : length c.args.area.now < c.args.place + g.row.WIDTH * n =
    elim c.then-area-place.branch [
      | then-area-place-via-then-area-place w ↦ let below = w.if-area-place.true in omega arith
      | then-area-place-via-else-area-place+then-area-place-2 w ↦ no_room g.row.WIDTH c.args.place (length c.args.area.now) n g.met.N.SlipNumber.wide w.if-area-place-2.true
    ] in
    grind (arith, nat_tests)
