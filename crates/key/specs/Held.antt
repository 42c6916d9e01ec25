-- What a key in memory stands for. Assumes nothing.
use Rattle.scheme.specs.Keys.{Basis, basis}
use Rattle.key.specs.Stored.{front}
use Rattle.key.specs.declared.key.Key.{Key}

abbrev pub basis_of : Key → Basis
basis_of key = basis (front key.class key.f) (front key.class key.g) (front key.class key.cap_f) (front key.class key.cap_g)
