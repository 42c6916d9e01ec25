-- The entries of a log: how many, whether a hash is one of them, and one more.
use Rattle.std.proofs.Common.{◌≡◌, ℕ, zero, suc, ◌+◌, ◌<◌, Bool, true, false, ◌||◌, List, [], ◌∷◌, ◌++◌, length, sym, refl, ap, ◌∙◌, ⊎_elim, add-one, arith}
use Rattle.std.proofs.lemmas.List.{length_push}
use Rattle.std.proofs.lemmas.Bool.{cases_eq, or_from, or_left, or_right}
use Rattle.std.specs.Str.{bytes_eq}
use Rattle.scheme.specs.Steps.{listed}
use Rattle.session.specs.Logs.{chunk, chunks}

pub length_chunks : (size count : ℕ) (bytes : List ℕ) → length (chunks size count bytes) ≡ count
unfolding chunks
length_chunks size zero bytes = refl
length_chunks size (suc count) bytes =
    length_push (chunks size count bytes) (chunk size count bytes) ∙ ap (λ k. k + 1) (length_chunks size count bytes) ∙ add-one count

pub chunks_more : (size count : ℕ) (bytes : List ℕ) → chunks size (count + 1) bytes ≡ chunks size count bytes ++ (chunk size count bytes ∷ [])
unfolding chunks
chunks_more size count bytes = rw add-one

or_assoc : (a b c : Bool) → (a || (b || c)) ≡ ((a || b) || c)
or_assoc true b c = refl
or_assoc false b c = refl

or_none : (a : Bool) → (a || false) ≡ a
or_none true = refl
or_none false = refl

pub listed_push : (entries : List (List ℕ)) (entry hash : List ℕ) → listed (entries ++ (entry ∷ [])) hash ≡ (listed entries hash || bytes_eq entry hash)
unfolding listed
listed_push [] entry hash = or_none (bytes_eq entry hash)
listed_push (e ∷ entries) entry hash =
    ap (λ t. bytes_eq e hash || t) (listed_push entries entry hash) ∙ or_assoc (bytes_eq e hash) (listed entries hash) (bytes_eq entry hash)

-- an entry is found among all
pub listed_at : (size k count : ℕ) (bytes hash : List ℕ) → k < count → bytes_eq (chunk size k bytes) hash ≡ true
    → listed (chunks size count bytes) hash ≡ true
unfolding chunks
listed_at size k zero bytes hash h e = absurd (omega arith)
listed_at size k (suc count) bytes hash h e =
    listed_push (chunks size count bytes) (chunk size count bytes) hash
    ∙ ⊎_elim
    (λ (same : k ≡ count). or_right (listed (chunks size count bytes) hash) (bytes_eq (chunk size count bytes) hash)
    (ap (λ i. bytes_eq (chunk size i bytes) hash) (sym same) ∙ e))
    (λ (other : k ≡ count → ⊥). or_left (listed (chunks size count bytes) hash) (bytes_eq (chunk size count bytes) hash)
    (listed_at size k count bytes hash (omega arith) e))
    (cases_eq k count)

-- a hash that no entry equals is not found
pub listed_nowhere : (size count : ℕ) (bytes hash : List ℕ) → ((k : ℕ) → k < count → bytes_eq (chunk size k bytes) hash ≡ false)
    → listed (chunks size count bytes) hash ≡ false
unfolding listed chunks
listed_nowhere size zero bytes hash h = refl
listed_nowhere size (suc count) bytes hash h =
    listed_push (chunks size count bytes) (chunk size count bytes) hash
    ∙ or_from _ _ (listed_nowhere size count bytes hash (λ k l. h k (omega arith))) (h count (omega arith))
