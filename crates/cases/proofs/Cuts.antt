-- A text that is cut at a mark.
use Rattle.std.proofs.Common.{◌≡◌, ◌≢◌, ℕ, zero, suc, ◌+◌, ◌<◌, ◌≤◌, Bool, true, false, cond, eqb, List, [], ◌∷◌, ◌++◌, length, get_or, take, drop, Some, None, codes, Option, sym, refl, ap, ◌∙◌, inl, inr, arith, Bor, MatchOption}
use Rattle.std.specs.Option.{option_map, unwrap_or}
use Rattle.std.specs.Bool.{then_some}
use Rattle.std.specs.Str.Pattern.{LacksTextAt, FindsText, FindsTextPrefix}
use Rattle.std.proofs.lemmas.Bool.{eq-eqb, ne_eqb, eqb-true, cases_Bool}
use Rattle.std.proofs.lemmas.Str.Pattern.{IsSplitOnceResult, split_parts}
use Rattle.cases.specs.declared.case.Case.{Case}
use Rattle.cases.specs.Lines.{behind, cut, parts, parts_of, opened, called}

-- the two parts as texts
abbrev pub both : Bor (List ℕ) × Bor (List ℕ) → List ℕ × List ℕ
both x = (x.0.now, x.1.now)

abbrev pub Free : ℕ → List ℕ → Type 0
Free c text = (i : ℕ) → i < length text → get_or text i 0 ≢ c

free_first : (c b : ℕ) (text : List ℕ) → Free c (b ∷ text) → eqb b c ≡ false
free_first c b text f = ne_eqb b c (f 0 (omega arith))

free_rest : (c b : ℕ) (text : List ℕ) → Free c (b ∷ text) → Free c text
free_rest c b text f = λ i h e. f (suc i) (omega arith) e

char_none : (c : ℕ) (text : List ℕ) → Free c text → cut (c ∷ []) text ≡ None
unfolding cut
char_none c [] f = refl
char_none c (b ∷ text) f = rw (free_first c b text f, char_none c text (free_rest c b text f))

char_at : (c : ℕ) (xs ys : List ℕ) → Free c xs → cut (c ∷ []) (xs ++ (c ∷ ys)) ≡ Some (xs, ys)
unfolding cut
char_at c [] ys f = rw (eq-eqb c c refl)
char_at c (b ∷ xs) ys f = rw (free_first c b xs f, char_at c xs ys (free_rest c b xs f))

pub cut_char : (c : ℕ) (text : List ℕ) (r : Option (Bor (List ℕ) × Bor (List ℕ))) → IsSplitOnceResult c text r → c < 128 → option_map both r ≡ cut (c ∷ []) text
cut_char c text None h small = sym (char_none c text (split_parts c text None h small))
cut_char c text (Some x) h small =
    let p = split_parts c text (Some x) h small in
    rw p.0 (sym (char_at c x.0.now x.1.now p.1))

pub behind_some : (mark rest : List ℕ) → behind mark (mark ++ rest) ≡ Some rest
behind_some [] rest = refl
behind_some (c ∷ mark) rest = rw (eq-eqb c c refl, behind_some mark rest)

pub behind_none : (mark text : List ℕ) → ((rest : List ℕ) → text ≢ mark ++ rest) → behind mark text ≡ None
behind_none [] text n = absurd (n text refl)
behind_none (c ∷ mark) [] n = refl
behind_none (c ∷ mark) (b ∷ text) n = elim (cases_Bool (eqb b c)) [
  | inl e ↦ rw (e, behind_none mark text (λ rest same. n rest (let first = eqb-true b c e in cc)))
  | inr e ↦ rw e
]

pub behind_is : (mark text : List ℕ) (r : Option (Bor (List ℕ))) → MatchOption r (FindsTextPrefix mark text None) (λ x. (n : ℕ) × FindsTextPrefix mark text (Some n) × (x.now ≡ drop n text) × (length x.now + n ≡ length text))
    → option_map (λ x. x.now) r ≡ behind mark text
behind_is mark text None h = sym (behind_none mark text h)
behind_is mark text (Some x) h = ap Some h.2 ∙ sym (ap (behind mark) h.1.1 ∙ behind_some mark (drop h.0 text))

module _ (c : ℕ) (mark : List ℕ) where
  text_at : (text : List ℕ) (i : ℕ) (rest : List ℕ) → ((k : ℕ) → k < i → LacksTextAt (c ∷ mark) text k) → drop i text ≡ (c ∷ mark) ++ rest → cut (c ∷ mark) text ≡ Some (take i text, rest)
  unfolding cut
  text_at [] zero rest f e = cc
  text_at [] (suc i) rest f e = cc
  text_at (b ∷ text) zero rest f e = rw (ap (behind (c ∷ mark)) e ∙ behind_some (c ∷ mark) rest)
  text_at (b ∷ text) (suc i) rest f e =
      rw (behind_none (c ∷ mark) (b ∷ text) (f 0 (omega arith)), text_at text i rest (λ k h. f (suc k) (omega arith)) e)

  text_none : (text : List ℕ) → ((i : ℕ) → i ≤ length text → LacksTextAt (c ∷ mark) text i) → cut (c ∷ mark) text ≡ None
  unfolding cut
  text_none [] f = refl
  text_none (b ∷ text) f = rw (behind_none (c ∷ mark) (b ∷ text) (f 0 (omega arith)), text_none text (λ i h. f (suc i) (omega arith)))

  pub cut_text : (text : List ℕ) (r : Option (Bor (List ℕ) × Bor (List ℕ)))
      → MatchOption r (FindsText (c ∷ mark) text None) (λ x. (i : ℕ) × (j : ℕ) × FindsText (c ∷ mark) text (Some (i, j)) × (x.0.now ≡ take i text) × (x.1.now ≡ drop j text) × (i ≤ j) × (length x.0.now ≡ i) × (length x.1.now + j ≡ length text))
      → option_map both r ≡ cut (c ∷ mark) text
  cut_text text None h = sym (text_none text h)
  cut_text text (Some x) h = rw (h.3, h.4) (sym (text_at text h.0 (drop h.1 text) h.2.0 h.2.1.split))

pub kept_if : (b : Bool) (x : Bor (List ℕ)) → option_map (λ x. x.now) (then_some b x) ≡ cond b (Some x.now) None
kept_if true x = refl
kept_if false x = refl

-- a text that is taken as it is where the mark does not stand before it
pub behind_or : (mark : List ℕ) (line : Bor (List ℕ)) (r : Option (Bor (List ℕ))) → option_map (λ x. x.now) r ≡ behind mark line.now → (unwrap_or r line).now ≡ unwrap_or (behind mark line.now) line.now
behind_or mark line None e = rw (← e)
behind_or mark line (Some x) e = rw (← e)

pub called_is : (call empty : Bor (List ℕ)) (expect : List ℕ) (r : Option (Bor (List ℕ) × Bor (List ℕ))) (x : Bor (List ℕ) × Bor (List ℕ)) → option_map both r ≡ cut (codes " ") call.now → empty.now ≡ []
    → x ≡ unwrap_or r (call, empty) → called call.now expect ≡ parts x.0.now x.1.now expect
called_is call empty expect None x e n d = rw (← e, d, n)
called_is call empty expect (Some y) x e n d = rw (← e, d)

-- with another outcome
pub opened_as : (call expect : List ℕ) (case : Case) → opened call [] ≡ Some (parts_of case) → opened call expect ≡ Some (parts case.verb.now case.fields.now expect)
opened_as call expect case e = go (cut (codes " ") call) refl
  where
    go : (o : Option (List ℕ × List ℕ)) → cut (codes " ") call ≡ o → opened call expect ≡ Some (parts case.verb.now case.fields.now expect)
    go None d = let clash : None ≡ Some (parts_of case) = rw d at e in cc
    go (Some x) d = let same : Some (parts x.0 x.1 []) ≡ Some (parts_of case) = rw d at e in let inner : parts x.0 x.1 [] ≡ parts_of case = cc in rw d (ap (λ p. Some (parts p.verb p.fields expect)) inner)

pub opened_none : (call expect : List ℕ) → opened call [] ≡ None → opened call expect ≡ None
opened_none call expect e = go (cut (codes " ") call) refl
  where
    go : (o : Option (List ℕ × List ℕ)) → cut (codes " ") call ≡ o → opened call expect ≡ None
    go None d = rw d
    go (Some x) d = let clash : Some (parts x.0 x.1 []) ≡ None = rw d at e in cc
