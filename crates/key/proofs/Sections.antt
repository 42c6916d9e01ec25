-- The front of fixed memory that an element of a class uses.
use Rattle.std.proofs.Common.{◌≡◌, ◌<◌, ◌≤◌, List, length, get_or, ℤ, pos, arith}
use Rattle.std.proofs.lemmas.List.{length-take-le, get_or-take}
use Rattle.ring.specs.Classes.{size_of}
use Rattle.ring.specs.declared.class.Class.{Class}
use Rattle.ring.specs.declared.class.Class.TheVariants.{One, Two, Three, Four}
use Rattle.key.specs.Stored.{front, room_of}

pub size_room : (class : Class) → (0 < size_of class) × (size_of class ≤ room_of)
size_room One = omega arith
size_room Two = omega arith
size_room Three = omega arith
size_room Four = omega arith

pub front_first : (class : Class) (xs : List ℤ) → get_or (front class xs) 0 (pos 0) ≡ get_or xs 0 (pos 0)
unfolding front
front_first class xs = get_or-take (size_of class) xs 0 (pos 0) (size_room class).0

pub length_front : (class : Class) (xs : List ℤ) → length xs ≡ room_of → length (front class xs) ≡ size_of class
unfolding front
length_front class xs e = length-take-le (size_of class) xs (let room = size_room class in omega (arith, room.1))
