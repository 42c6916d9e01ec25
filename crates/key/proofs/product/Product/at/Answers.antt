use Rattle.std.proofs.Common.{arith}
use Rattle.key.specs.Words.{SmallWords}
use Rattle.key.specs.declared.product.Product.{Product}
use Rattle.key.proofs.Rows.{product_exact, product_small}
use Rattle.key.proofs.product.Product.at.Goals as goal

left : (p : Product) → SmallWords p.a.now
left p = record { few = p.few; small = p.small_a }

right : (p : Product) → SmallWords p.b.now
right p = record { few = omega (arith, p.few, p.long); small = p.small_b }

pub returns-clause-value : goal.returns-clause-value
returns-clause-value c =
    let p = c.args.self.now in
    product_exact p.a.now p.b.now p.a_star.now p.b_words.now c.args.k c.coefficient.result (left p) (right p) p.star p.wide (record { sfits = c.coefficient.type_inv }) c.coefficient.ensures

pub returns-clause-small : goal.returns-clause-small
returns-clause-small c =
    let p = c.args.self.now in
    rw (product_exact p.a.now p.b.now p.a_star.now p.b_words.now c.args.k c.coefficient.result (left p) (right p) p.star p.wide (record { sfits = c.coefficient.type_inv }) c.coefficient.ensures)
    (product_small p.a.now p.b.now c.args.k (left p) (right p))
