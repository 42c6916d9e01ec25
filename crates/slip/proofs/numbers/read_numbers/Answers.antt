use Rattle.std.proofs.Common.{◌≡◌, ◌*◌, ◌%◌, ◌/◌, length, arith}
use Rattle.std.proofs.lemmas.Bool.Decides.{nat_tests}
use Rattle.slip.proofs.Runs.{no_words}
use Rattle.slip.proofs.numbers.read_numbers.Goals as goal
use Rattle.slip.proofs.numbers.read_numbers.Goals.{then-bytes-ne0-via-then-bytes-ne0, then-bytes-ne0-via-else-bytes-ne0+then-bytes-numbers}

pub returns-then-bytes-ne0-clause-answer : goal.returns-then-bytes-ne0-clause-answer
returns-then-bytes-ne0-clause-answer g c =
    let size = length c.args.bytes.now in
    let n = length c.args.numbers.now in
    let differ : size % g.row.WIDTH ≡ 0 → size / g.row.WIDTH ≡ n → ⊥ =
    λ e f. elim c.then-bytes-ne0.branch [ then-bytes-ne0-via-then-bytes-ne0 w ↦ w.if-bytes-ne0.true e | then-bytes-ne0-via-else-bytes-ne0+then-bytes-numbers w ↦ w.if-bytes-numbers.true f ] in
    let h : g.row.WIDTH * n ≡ size → ⊥ = no_words g.row.WIDTH size n g.met.N.SlipNumber.wide differ in
    grind (arith, nat_tests)
