-- Matrices applied one after another, and that n is above 0.
use Rattle.std.proofs.Common.{◌≡◌, ℕ, zero, suc, ◌<◌, sym, ap, ◌∙◌, arith}
use Rattle.ring.specs.Classes.{size_of}
use Rattle.ring.specs.declared.class.Class.{Class}
use Rattle.ring.specs.declared.class.Class.TheVariants.{One, Two, Three, Four}
use Rattle.scheme.specs.Matrices.{Pair, Matrix, PairOf, MatrixOf, applied, composed}
use Rattle.algebra.proofs.Mats.{Mat, Vec, ◌⊙◌, ◌▷◌, ▷_assoc}
use Rattle.algebra.proofs.Bridges.{mat_of, vec_of, pairs, composed_is, applied_is}

pub positive : (class : Class) → 0 < size_of class
positive One = omega arith
positive Two = omega arith
positive Three = omega arith
positive Four = omega arith

pub composed_applied : (n : ℕ) → 0 < n → (u m : Matrix) → MatrixOf n u → MatrixOf n m → (v : Pair) → PairOf n v → applied (composed u m) v ≡ applied u (applied m v)
composed_applied zero h u m s t v p = absurd (omega arith)
composed_applied (suc k) h u m s t v p =
    let U : Mat k = mat_of u s in
    let M : Mat k = mat_of m t in
    let V : Vec k = vec_of v p in
    ap (λ w. applied w v) (composed_is U M) ∙ applied_is (U ⊙ M) V ∙ ap pairs (▷_assoc U M V)
    ∙ sym (ap (applied u) (applied_is M V) ∙ applied_is U (M ▷ V))
