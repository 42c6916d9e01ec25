use Rattle.std.proofs.Common.{◌≡◌, ◌+◌, min, take, drop, length, ap, ◌∙◌, arith, rules}
use Rattle.std.proofs.lemmas.List.{take_min, drop_min}
use Rattle.ring.proofs.Sums.{coefficient_from}
use Rattle.ring.proofs.products.coefficient.Goals as goal

pub returns : goal.returns
returns g c =
    let a = c.args.a.now in
    let b = c.args.b.now in
    let k = c.args.k in
    let at_a : c.min.result ≡ min (k + 1) (length a) = omega (arith, c.min.ensures, c.saturating_add-count.ensures) in
    let at_b : c.min-2.result ≡ min (k + 1) (length b) = omega (arith, c.min-2.ensures, c.saturating_add-count.ensures) in
    let a_low : c.split_at.result.0.now ≡ take c.min.result a = search rules in
    let a_high : c.split_at.result.1.now ≡ drop c.min.result a = search rules in
    let b_low : c.split_at-2.result.0.now ≡ take c.min-2.result b = search rules in
    let b_high : c.split_at-2.result.1.now ≡ drop c.min-2.result b = search rules in
    coefficient_from g.K.Coefficient.modulus g.K.Coefficient.residue a b _ _ _ _ k _ _ _ _
    (omega (arith, g.met.K.Coefficient.several))
    (a_low ∙ ap (λ i. take i a) at_a ∙ take_min (k + 1) a) (b_low ∙ ap (λ i. take i b) at_b ∙ take_min (k + 1) b)
    (a_high ∙ ap (λ i. drop i a) at_a ∙ drop_min (k + 1) a) (b_high ∙ ap (λ i. drop i b) at_b ∙ drop_min (k + 1) b)
    c.cross-straight.ensures c.cross-around.ensures c.negated.ensures c.plus.ensures
