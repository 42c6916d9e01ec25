use Rattle.std.proofs.Common.{map, ap, ◌∙◌}
use Rattle.std.specs.Str.{bytes_eq}
use Rattle.ring.specs.Classes.{size_of}
use Rattle.ring.specs.Kinds.{rest}
use Rattle.scheme.specs.Hashes.{hash_pair}
use Rattle.scheme.specs.Signing.{target_of}
use Rattle.key.specs.Held.{basis_of}
use Rattle.signing.proofs.Agreements.{parities_are}
use Rattle.signing.proofs.sample.in_coset.Goals as goal

pub returns : goal.returns
returns c =
    let n = size_of c.args.key.now.class in
    let xs = c.args.sample.now in
    c.agree.ensures
    ∙ ap (bytes_eq (map (rest 2) xs)) c.target_bits.ensures
    ∙ ap (λ s. bytes_eq s (target_of (basis_of c.args.key.now) (hash_pair n c.args.hash.now))) (parities_are n xs)
