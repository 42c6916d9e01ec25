-- The laws of the integers and of Z[X]/(X^n + 1), over lists of n integers. Assumes nothing.
use Rattle.std.specs.Prelude.{◌≡◌, ℕ, ◌+◌, ◌-◌, ◌*◌, ◌<◌, ◌≤◌, List, length, ℤ, pos, ◌+ℤ◌, ◌*ℤ◌, slice_index_or}
use Rattle.ring.specs.Elements.{dot, product, sum, negative, adjoint, turned, constant}
use Rattle.scheme.specs.Powers.{powered}

-- what the integers lacked
pub record IntegerLaws : Type 0 where
  pub product_assoc : (x y z : ℤ) → (x *ℤ y) *ℤ z ≡ x *ℤ (y *ℤ z)
  pub product_sum : (x y z : ℤ) → x *ℤ (y +ℤ z) ≡ x *ℤ y +ℤ x *ℤ z

-- a commutative ring with one
pub record RingLaws (n : ℕ) : Type 0 where
  pub sum_size : (a b : List ℤ) → length a ≡ n → length b ≡ n → length (sum a b) ≡ n
  pub sum_comm : (a b : List ℤ) → length a ≡ n → length b ≡ n → sum a b ≡ sum b a
  pub sum_assoc : (a b c : List ℤ) → length a ≡ n → length b ≡ n → length c ≡ n → sum (sum a b) c ≡ sum a (sum b c)
  pub sum_zero : (a : List ℤ) → length a ≡ n → sum a (constant n (pos 0)) ≡ a
  pub negative_size : (a : List ℤ) → length a ≡ n → length (negative a) ≡ n
  pub sum_negative : (a : List ℤ) → length a ≡ n → sum a (negative a) ≡ constant n (pos 0)
  pub product_size : (a b : List ℤ) → length a ≡ n → length b ≡ n → length (product a b) ≡ n
  pub product_comm : (a b : List ℤ) → length a ≡ n → length b ≡ n → product a b ≡ product b a
  pub product_assoc : (a b c : List ℤ) → length a ≡ n → length b ≡ n → length c ≡ n → product (product a b) c ≡ product a (product b c)
  pub product_one : (a : List ℤ) → length a ≡ n → product a (constant n (pos 1)) ≡ a
  pub product_sum : (a b c : List ℤ) → length a ≡ n → length b ≡ n → length c ≡ n → product a (sum b c) ≡ sum (product a b) (product a c)
  pub product_negative : (a b : List ℤ) → length a ≡ n → length b ≡ n → product a (negative b) ≡ negative (product a b)

-- powers of X
pub record PowerLaws (n : ℕ) : Type 0 where
  -- X^k · a is the product of X^k and a
  pub is_product : (k : ℕ) (a : List ℤ) → length a ≡ n → powered k a ≡ product (powered k (constant n (pos 1))) a
  pub is_turned : (k : ℕ) (a : List ℤ) → length a ≡ n → k ≤ n → powered k a ≡ turned k a
  pub together : (j k : ℕ) (a : List ℤ) → length a ≡ n → powered (j + k) a ≡ powered j (powered k a)
  -- X^n = −1 and X^(2n) = 1
  pub half_way : (a : List ℤ) → length a ≡ n → powered n a ≡ negative a
  pub all_round : (a : List ℤ) → length a ≡ n → powered (2 * n) a ≡ a

-- the adjoint
pub record AdjointLaws (n : ℕ) : Type 0 where
  pub size : (a : List ℤ) → length a ≡ n → length (adjoint a) ≡ n
  pub twice : (a : List ℤ) → length a ≡ n → adjoint (adjoint a) ≡ a
  pub of_sum : (a b : List ℤ) → length a ≡ n → length b ≡ n → adjoint (sum a b) ≡ sum (adjoint a) (adjoint b)
  pub of_product : (a b : List ℤ) → length a ≡ n → length b ≡ n → adjoint (product a b) ≡ product (adjoint a) (adjoint b)
  -- the adjoint of X^k · a is X^(−k) · a*
  pub of_power : (k : ℕ) (a : List ℤ) → length a ≡ n → k ≤ 2 * n → adjoint (powered k a) ≡ powered (2 * n - k) (adjoint a)
  -- the constant coefficient of a*·b is the sum of a_i · b_i
  pub constant_of : (a b : List ℤ) → length a ≡ n → length b ≡ n → slice_index_or (product (adjoint a) b) 0 (pos 0) ≡ dot a b
  pub constant_of_square : (a : List ℤ) → length a ≡ n → slice_index_or (product (adjoint a) a) 0 (pos 0) ≡ dot a a
  -- ⟨a·b, c⟩ = ⟨b, a*·c⟩
  pub moves : (a b c : List ℤ) → length a ≡ n → length b ≡ n → length c ≡ n → dot (product a b) c ≡ dot b (product (adjoint a) c)

pub record ElementLaws : Type 0 where
  pub integers : IntegerLaws
  pub elements : (n : ℕ) → 0 < n → RingLaws n
  pub powers : (n : ℕ) → 0 < n → PowerLaws n
  pub adjoints : (n : ℕ) → 0 < n → AdjointLaws n
