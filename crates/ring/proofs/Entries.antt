-- What a number means that is read out of a list of any kind: the entry of the sum, adjoint or turned
-- element of the list's values.
use Rattle.std.proofs.Common.{◌≡◌, ℕ, ◌-◌, ◌<◌, ◌≤◌, List, length, get_or, ℤ, pos, ◌+ℤ◌, neg_ℤ, sym, ap, ◌∙◌, arith}
use Rattle.std.proofs.lemmas.List.{length-map}
use Rattle.ring.specs.Elements.{sum, adjoint, turned}
use Rattle.ring.specs.Kinds.{rest, values}
use Rattle.ring.proofs.Residues.{rest_small}
use Rattle.ring.proofs.Sums.{values_at}
use Rattle.ring.proofs.Places.{sum_at, adjoint_first, adjoint_other, turned_front, turned_back}

module _ {X : Type 0} (m : ℕ) (res : X → ℕ) (a : List X) where
  pub length_values : length (values res a) ≡ length a
  length_values = length-map a (λ x. pos (res x))

  -- x stands at place j, and the entry of interest is entry j, or its negative
  same_read : (j : ℕ) (x : X) (z : ℤ) → j < length a → x ≡ get_or a j x → res x < m → z ≡ get_or (values res a) j (pos 0) → res x ≡ rest m z
  same_read j x z h e small is = sym (rest_small m (res x) small) ∙ ap (rest m) (sym (is ∙ values_at res a j x h e))

  negated_read : (j : ℕ) (x : X) (r : ℕ) (z : ℤ) → j < length a → x ≡ get_or a j x → r ≡ rest m (neg_ℤ (pos (res x))) → z ≡ neg_ℤ (get_or (values res a) j (pos 0)) → r ≡ rest m z
  negated_read j x r z h e er is = er ∙ ap (rest m) (sym (is ∙ ap neg_ℤ (values_at res a j x h e)))

  pub adjoint_read_first : (i : ℕ) (x : X) → i < length a → i ≡ 0 → x ≡ get_or a 0 x → res x < m → res x ≡ rest m (get_or (adjoint (values res a)) i (pos 0))
  adjoint_read_first i x h e ex small =
      same_read 0 x _ (omega arith) ex small (ap (λ j. get_or (adjoint (values res a)) j (pos 0)) e ∙ adjoint_first (values res a))

  pub adjoint_read_other : (i : ℕ) (x : X) (r : ℕ) → 0 < i → i < length a → x ≡ get_or a (length a - i) x → r ≡ rest m (neg_ℤ (pos (res x))) → r ≡ rest m (get_or (adjoint (values res a)) i (pos 0))
  adjoint_read_other i x r h k ex er =
      let long = length_values in
      let within : i < length (values res a) = omega arith in
      negated_read (length a - i) x r _ (omega arith) ex er
      (adjoint_other (values res a) i h within ∙ ap (λ n. neg_ℤ (get_or (values res a) (n - i) (pos 0))) long)

  pub turned_read_front : (k i : ℕ) (x : X) (r : ℕ) → k < length a → i < k → x ≡ get_or a (length a - (k - i)) x → r ≡ rest m (neg_ℤ (pos (res x))) → r ≡ rest m (get_or (turned k (values res a)) i (pos 0))
  turned_read_front k i x r h below ex er =
      let long = length_values in
      let within : k ≤ length (values res a) = omega arith in
      negated_read (length a - (k - i)) x r _ (omega arith) ex er
      (turned_front (values res a) k within i below ∙ ap (λ n. neg_ℤ (get_or (values res a) (n - (k - i)) (pos 0))) long)

  pub turned_read_back : (k i : ℕ) (x : X) → k < length a → k ≤ i → i < length a → x ≡ get_or a (i - k) x → res x < m → res x ≡ rest m (get_or (turned k (values res a)) i (pos 0))
  turned_read_back k i x h above below ex small =
      let long = length_values in
      let within : k ≤ length (values res a) = omega arith in
      let inside : i < length (values res a) = omega arith in
      same_read (i - k) x _ (omega arith) ex small (turned_back (values res a) k within i above inside)

  pub sum_read : (b : List X) (i : ℕ) (x y : X) (r : ℕ) → i < length a → i < length b → x ≡ get_or a i x → y ≡ get_or b i y → r ≡ rest m (pos (res x) +ℤ pos (res y)) → r ≡ rest m (get_or (sum (values res a) (values res b)) i (pos 0))
  sum_read b i x y r h k ex ey er =
      let long = length_values in
      let long-b : length (values res b) ≡ length b = length-map b (λ z. pos (res z)) in
      let in-a : i < length (values res a) = omega arith in
      let in_b : i < length (values res b) = omega arith in
      er ∙ ap (rest m) (sym (sum_at (values res a) (values res b) i in-a in_b ∙ rw (values_at res a i x h ex, values_at res b i y k ey)))
