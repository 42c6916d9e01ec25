use Rattle.std.proofs.Common.{length, map, ap, ◌∙◌, sym}
use Rattle.std.proofs.lemmas.List.{map-id, length-map}
use Rattle.ring.proofs.Fronts.{widened}
use Rattle.ring.specs.Elements.{adjoint}
use Rattle.ring.specs.Kinds.{word_value}
use Rattle.key.proofs.product.Product.new.Goals as goal

pub invariant_of-result : goal.invariant_of-result
invariant_of-result c = record {
  few = c.requires.a.few;
  long = c.requires.long;
  small_a = c.requires.a.small;
  small_b = c.requires.b.small;
  star = c.star.ensures.mirror ∙ ap (λ xs. map word_value (adjoint xs)) (map-id c.args.a.now);
  wide = c.widen.ensures ∙ widened c.args.b.now c.star.new.element (ap length c.star.ensures.element ∙ length-map c.args.a.now _ ∙ sym c.requires.long);
}
