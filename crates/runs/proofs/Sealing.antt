-- What holds of a session just opened.
use Rattle.acceptance.proofs.Issuing.{issued_is_accepted}
use Rattle.algebra.proofs.Counting.{exactly_4n}
use Rattle.ring.specs.Classes.{size_of}
use Rattle.runs.specs.Sealed.{SessionsAreSealed}
use Rattle.runs.proofs.Applied.{positive}
use Rattle.runs.proofs.HiddenKeys.{keys_stay_hidden}
use Rattle.runs.proofs.Laws.{lawful}

pub sealed : SessionsAreSealed
sealed class b key log = record {
  lawful = λ calls given. lawful issued_is_accepted class b key log calls given;
  hidden = λ b' key' same log' long. keys_stay_hidden class b b' key key' same log log' long;
  belongs = exactly_4n (size_of class) b (positive class) key;
}
