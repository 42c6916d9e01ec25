use Rattle.std.proofs.Common.{◌≡◌, length, refl, rules}
use Rattle.key.specs.Stored.{room_of}
use Rattle.key.proofs.Kept.{kept_is}
use Rattle.key.proofs.key.Key.class.Goals as goal

pub returns : goal.returns
returns c =
    let f : length c.args.self.now.f ≡ room_of = search rules in
    let g : length c.args.self.now.g ≡ room_of = search rules in
    let F : length c.args.self.now.cap_f ≡ room_of = search rules in
    let G : length c.args.self.now.cap_g ≡ room_of = search rules in
    record { class = refl; sound = kept_is c.args.self.now f g F G }
