use Rattle.std.proofs.Common.{◌≡◌, ◌≤◌, sym, refl, ap, ◌∙◌, arith}
use Rattle.std.proofs.lemmas.Result.{err_from_is_err_and}
use Rattle.ring.specs.Classes.{size_of, bound_of}
use Rattle.scheme.specs.Hashes.{hash_pair}
use Rattle.scheme.specs.Pairs.{pair_from}
use Rattle.scheme.specs.Signing.{length_of}
use Rattle.key.specs.Held.{basis_of}
use Rattle.signing.proofs.Outcomes.{coset_fails, bound_fails, both_pass}
use Rattle.signing.proofs.Squares.{length_is}
use Rattle.signing.proofs.sign.sign_sized.Goals as goal

pub returns-then-not-in_coset : goal.returns-then-not-in_coset
returns-then-not-in_coset c =
    let key = c.args.key.now in
    let n = size_of key.class in
    record { answer = coset_fails key.class (basis_of key) (hash_pair n c.args.hash.now) (pair_from n c.args.sample.now) (sym c.if-not-in_coset.ensures); kept = refl }

pub returns-then-squares-from : goal.returns-then-squares-from
returns-then-squares-from c =
    let key = c.args.key.now in
    let n = size_of key.class in
    let x = pair_from n c.args.sample.now in
    let bound : c.from.result ≡ bound_of key.class = c.from.ensures ∙ c.bound.ensures ∙ ap bound_of c.class.ensures.class in
    let squares : c.squared_length-squares.result ≡ length_of x = c.squared_length-squares.ensures ∙ length_is n c.args.sample.now in
    record { answer = bound_fails key.class (basis_of key) (hash_pair n c.args.hash.now) x (sym c.if-not-in_coset.ensures) (omega (arith, bound, squares, c.if-squares-from.true)); kept = refl }

pub sign_short-requires : goal.sign_short-requires
sign_short-requires c =
    let key = c.args.key.now in
    let n = size_of key.class in
    let bound : c.from.result ≡ bound_of key.class = c.from.ensures ∙ c.bound.ensures ∙ ap bound_of c.class.ensures.class in
    let squares : c.squared_length-squares.result ≡ length_of (pair_from n c.args.sample.now) = c.squared_length-squares.ensures ∙ length_is n c.args.sample.now in
    record { sized = c.requires; bounded = omega (arith, bound, squares, c.if-squares-from.false) }

pub returns-in_err-changed : goal.returns-in_err-changed
returns-in_err-changed c =
    let key = c.args.key.now in
    let n = size_of key.class in
    let x = pair_from n c.args.sample.now in
    let bound : c.from.result ≡ bound_of key.class = c.from.ensures ∙ c.bound.ensures ∙ ap bound_of c.class.ensures.class in
    let squares : c.squared_length-squares.result ≡ length_of x = c.squared_length-squares.ensures ∙ length_is n c.args.sample.now in
    let below : length_of x ≤ bound_of key.class = omega (arith, bound, squares, c.if-squares-from.false) in
    let p = err_from_is_err_and c.from_residual.result c.from_residual.ensures.1 in
    record {
      answer = rw (p.1, p.2) (both_pass key.class (basis_of key) (hash_pair n c.args.hash.now) x (sym c.if-not-in_coset.ensures) below ∙ c.in_err-changed.ensures.answer);
      kept = rw p.1 c.in_err-changed.ensures.kept;
    }

pub returns : goal.returns
returns c =
    let key = c.args.key.now in
    let n = size_of key.class in
    let x = pair_from n c.args.sample.now in
    let bound : c.from.result ≡ bound_of key.class = c.from.ensures ∙ c.bound.ensures ∙ ap bound_of c.class.ensures.class in
    let squares : c.squared_length-squares.result ≡ length_of x = c.squared_length-squares.ensures ∙ length_is n c.args.sample.now in
    let below : length_of x ≤ bound_of key.class = omega (arith, bound, squares, c.if-squares-from.false) in
    let done = c.in_ok-changed.ensures.answer in
    record { answer = (both_pass key.class (basis_of key) (hash_pair n c.args.hash.now) x (sym c.if-not-in_coset.ensures) below ∙ done.0, (squares, done.1)); kept = tt }
