-- The places of sections, one after another.
use Rattle.std.proofs.Common.{◌≡◌, ℕ, zero, suc, ◌+◌, ◌-◌, ◌≤◌, ◌++◌, List, [], ◌∷◌, sym, ap, ◌∙◌, arith}
use Rattle.slip.specs.declared.kind.Kind.{Kind}
use Rattle.slip.specs.declared.kind.Kind.TheVariants.{Key, Form, Signature}
use Rattle.slip.specs.Kinds.{sections_of}
use Rattle.std.specs.List.{flat_map, range_with_len}
use Rattle.std.proofs.lemmas.List.{flat_map_more}

range_more : (a n : ℕ) → range_with_len a (suc n) ≡ range_with_len a n ++ ((a + n) ∷ [])
range_more a zero = let e : a ≡ a + 0 = omega arith in ap (λ k. k ∷ []) e
range_more a (suc n) = let e : a + 1 + n ≡ a + suc n = omega arith in ap (λ ks. a ∷ ks) (range_more (a + 1) n ∙ ap (λ k. range_with_len (a + 1) n ++ (k ∷ [])) e)

pub more_places : (f : ℕ → List ℕ) (first text after : List ℕ) (i : ℕ) → 1 ≤ i → text ≡ first ++ flat_map f (range_with_len 1 (i - 1)) → after ≡ text ++ f i → after ≡ first ++ flat_map f (range_with_len 1 (i + 1 - 1))
more_places f first text after i h inv e =
    let n : i + 1 - 1 ≡ suc (i - 1) = omega arith in
    let last : 1 + (i - 1) ≡ i = omega arith in
    let more : range_with_len 1 (i + 1 - 1) ≡ range_with_len 1 (i - 1) ++ (i ∷ []) = ap (range_with_len 1) n ∙ range_more 1 (i - 1) ∙ ap (λ k. range_with_len 1 (i - 1) ++ (k ∷ [])) last in
    e ∙ ap (λ t. t ++ f i) inv ∙ flat_map_more f first (range_with_len 1 (i - 1)) i ∙ ap (λ ks. first ++ flat_map f ks) (sym more)

pub some_section : (kind : Kind) → 1 ≤ sections_of kind
some_section Key = omega arith
some_section Form = omega arith
some_section Signature = omega arith
