-- A key in memory is a key.
use Rattle.std.proofs.Common.{◌≡◌, length}
use Rattle.ring.specs.Classes.{size_of}
use Rattle.scheme.specs.Keys.{IsKey}
use Rattle.key.specs.Held.{basis_of}
use Rattle.key.specs.Stored.{room_of}
use Rattle.key.specs.declared.key.Key.{Key}
use Rattle.key.proofs.Forms.{key_is}
use Rattle.key.proofs.Sections.{length_front}

pub kept_is : (key : Key) → length key.f ≡ room_of → length key.g ≡ room_of → length key.cap_f ≡ room_of → length key.cap_g ≡ room_of
    → IsKey (size_of key.class) (basis_of key)
kept_is key f g F G = key_is key (length_front key.class key.f f) (length_front key.class key.g g) (length_front key.class key.cap_f F) (length_front key.class key.cap_g G)
