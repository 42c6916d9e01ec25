use Rattle.std.proofs.Common.{Some, vec_items, ap}
use Rattle.ring.specs.Classes.{size_of}
use Rattle.cases.specs.Places.{write_outcome, slip_written_text}
use Rattle.cases.proofs.Giving.{gives_same}
use Rattle.cases.proofs.Holds.{written_as}
use Rattle.cases.proofs.keys.write.Goals as goal

pub returns : goal.returns
returns g c =
    let p = g.P.Place in
    let place = c.in_ok-place.place in
    let file = c.in_ok-place.ensures.0 in
    let read = c.in_ok-place.ensures.1 in
    let holds = c.in_ok-place.ensures.2 in
    let room = c.in_ok-room.ensures in
    gives_same vec_items (write_outcome p.tests p.words p.needed p.slip_in c.args.name.now c.args.case.now.fields.now) (Some (slip_written_text (p.needed (size_of (p.class_of place))) c.in_ok-room.room (p.slip_of place))) c.write_text.result
    (rw (read, room) (ap Some (written_as p.needed c.in_ok-room.room file (p.slip_of place) (p.slip_in file) (p.class_of place) (g.met.P.Place.named file place holds) (g.met.P.Place.held file place holds))))
    c.write_text.ensures
