use Rattle.std.proofs.Common.{◌≡◌, ◌*◌, ◌≤◌, take, nat_abs}
use Rattle.ring.specs.Elements.{dot}
use Rattle.scheme.specs.Verdicts.{image_limit}
use Rattle.verify.proofs.Passes.{Passed}
use Rattle.verify.specs.Images.{point_limit}
use Rattle.verify.specs.Rows.{u_of}
use Rattle.verify.proofs.image.Row.paired.Given as goal

abbrev pub invariant-loop-k : goal.invariant-loop-k
invariant-loop-k l = record {
  kept : Passed image_limit (u_of l.self) l.k;
  sum_is : l.sum ≡ dot (take l.k l.half) (take l.k (u_of l.self));
  small : nat_abs l.sum ≤ (point_limit * image_limit) * l.k;
}
