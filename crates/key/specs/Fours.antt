-- What the words of four elements stand for. Assumes nothing.
use Rattle.scheme.specs.Keys.{Basis, basis}
use Rattle.key.specs.declared.key.words.Words.{Words}

abbrev pub basis_as : Words → Basis
basis_as w = basis w.f.now w.g.now w.cap_f.now w.cap_g.now
