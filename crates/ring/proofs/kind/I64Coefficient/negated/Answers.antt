use Rattle.std.proofs.Common.{◌≡◌, neg_ℤ, w64, SFits, rules}
use Rattle.std.specs.Int.{int_wrap}
use Rattle.std.proofs.lemmas.Int.{to_z-of_z, wraps}
use Rattle.ring.proofs.Words.{word_negated}
use Rattle.ring.proofs.kind.I64Coefficient.negated.Goals as goal

pub returns : goal.returns
returns c =
    let fits : SFits w64 c.wrapping_neg.result = record { sfits = c.wrapping_neg.type_inv } in
    let is : c.wrapping_neg.result ≡ int_wrap w64 (neg_ℤ c.args.self) = search (rules, wraps) in
    rw (to_z-of_z w64 c.wrapping_neg.result fits, is) (word_negated c.args.self)
