-- The words of a line that is cut at its first space.
use Rattle.std.proofs.Common.{◌≡◌, ℕ, zero, suc, ◌<◌, false, eqb, List, [], ◌∷◌, ◌++◌, length, get_or, Some, None, Option, refl, ap, ◌∙◌, inl, inr, arith, lit<, Bor, MatchOption}
use Rattle.std.proofs.lemmas.Str.Pattern.{IsSplitOnceResult, split_parts}
use Rattle.std.proofs.lemmas.Bool.{eq-eqb, ne_eqb, cases_Bool}
use Rattle.script.specs.Meanings.{Bad, words, of_words}

-- no space in the bytes
abbrev pub Free : List ℕ → Type 0
Free word = (i : ℕ) → i < length word → get_or word i 0 ≡ 32 → ⊥

rest_free : (b : ℕ) (word : List ℕ) → Free (b ∷ word) → Free word
rest_free b word f = λ i h e. f (suc i) (omega arith) e

first_free : (b : ℕ) (word : List ℕ) → Free (b ∷ word) → eqb b 32 ≡ false
first_free b word f = ne_eqb b 32 (f 0 (omega arith))

pub words_free : (word : List ℕ) → Free word → words word ≡ word ∷ []
unfolding words
words_free [] f = refl
words_free (b ∷ word) f = rw (first_free b word f, words_free word (rest_free b word f))

pub words_cut : (word rest : List ℕ) → Free word → words (word ++ (32 ∷ rest)) ≡ word ∷ words rest
unfolding words
words_cut [] rest f = refl
words_cut (b ∷ word) rest f = rw (first_free b word f, words_cut word rest (rest_free b word f))

-- what a cut at the first space says of the words
pub words_split : (line : List ℕ) (r : Option (Bor (List ℕ) × Bor (List ℕ))) → IsSplitOnceResult 32 line r
    → MatchOption r (words line ≡ line ∷ []) (λ x. words line ≡ x.0.now ∷ words x.1.now)
words_split line None h = words_free line (split_parts 32 line None h (lit< tt))
words_split line (Some x) h =
    let p = split_parts 32 line (Some x) h (lit< tt) in
    ap words p.0 ∙ words_cut x.0.now x.1.now p.1

-- one word at least, and two where there is a space
pub words_some : (line : List ℕ) → (word : List ℕ) × (rest : List (List ℕ)) × (words line ≡ word ∷ rest)
unfolding words
words_some [] = ([], [], refl)
words_some (b ∷ line) =
    let p = words_some line in
    elim (cases_Bool (eqb b 32)) [ inl e ↦ ([], words line, rw e) | inr e ↦ (b ∷ p.0, p.1, rw (e, p.2)) ]

pub words_two : (line : List ℕ) (k : ℕ) → k < length line → get_or line k 0 ≡ 32
    → (first : List ℕ) × (second : List ℕ) × (rest : List (List ℕ)) × (words line ≡ first ∷ second ∷ rest)
unfolding words
words_two [] k h e = absurd (omega arith)
words_two (b ∷ line) zero h e =
    let p = words_some line in
    ([], p.0, p.1, rw (eq-eqb b 32 e, p.2))
words_two (b ∷ line) (suc k) h e =
    let p = words_two line k (omega arith) e in
    let q = words_some line in
    elim (cases_Bool (eqb b 32)) [ inl s ↦ ([], q.0, q.1, rw (s, q.2)) | inr s ↦ (b ∷ p.0, p.1, p.2, rw (s, p.3)) ]

-- four words are too many
pub four_bad : (line verb first second : List ℕ) (k : ℕ) → words line ≡ verb ∷ first ∷ words second → k < length second → get_or second k 0 ≡ 32
    → of_words (words line) ≡ Bad
four_bad line verb first second k e h s =
    let p = words_two second k h s in
    rw (e, p.3)
