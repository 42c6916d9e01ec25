-- What a search through the first chunks of a list finds.
use Rattle.std.proofs.Common.{◌≡◌, ℕ, ◌+◌, ◌*◌, ◌<◌, ◌≤◌, Bool, true, false, List, length, IsTrue, IfSome, IsSomeAnd, MatchBool, Some, None, Option, sym, ap, ◌∙◌, subst, inl, inr, arith}
use Rattle.std.proofs.lemmas.Bool.{cases_lt}
use Rattle.std.proofs.Math.Nat.{le-div_iff_mul-le}
use Rattle.std.specs.Iterator.Runs.{Run, HasSameItems, IsChunksExactRun, CallKeepsClosure, AnyItemGives, AllItemsGive}
use Rattle.std.specs.List.{IsSubsliceAt}
use Rattle.std.specs.Option.{option_map}
use Rattle.std.specs.Str.{bytes_eq}
use Rattle.scheme.specs.Steps.{listed}
use Rattle.session.specs.Logs.{chunk, chunks}
use Rattle.session.proofs.Entries.{listed_at, listed_nowhere}
use denote.Param.Members.{Mut, Called}
use denote.Ref.{Bor}

-- an item that was read is there
there : {A : Type 0} (o : Option A) (x : A) (P : A → Type 0) → option_map (λ y. y) o ≡ Some x → IfSome o P → IsSomeAnd o P
there None x P e h = absurd (cc)
there (Some y) x P e h = h

module _ {F : Type 0} (g : Mut F (Bor (List ℕ) × Unit {0}) Bool) (f : F) (size count : ℕ) (bytes : List ℕ) (hash : Bor (List ℕ))
    (computes : (x : Bor (List ℕ)) (b : Bool) → Called g f (x, tt) b f → b ≡ bytes_eq x.now hash.now) where
  -- what is asked at chunk k is that chunk
  asked : (k : ℕ) (b : Bool) (o : Option (Bor (List ℕ))) → IfSome o (λ x. (length x.now ≡ size) × (k * size + size ≤ length bytes) × IsSubsliceAt size bytes (k * size) x.now)
      → IsSomeAnd o (λ x. Called g f (x, tt) b f) → bytes_eq (chunk size k bytes) hash.now ≡ b
  asked k b None is h = absurd h
  asked k b (Some x) is h = ap (λ entry. bytes_eq entry hash.now) (sym is.2.0) ∙ sym (computes x b h)

  module _ {S T : Type 0} {steps : S → Option (Bor (List ℕ)) → S → Type 0} {source : T → Option (Bor (List ℕ)) → T → Type 0} (p : Run steps) (q : Run source)
      (some : 0 < size) (room : count * size ≤ length bytes) (few : p.len ≤ count) (same : HasSameItems p q)
      (whole : IsTrue p.whole → p.len < count → IsTrue q.whole) {cut : ℕ} {whole_list : List ℕ} (cut_is : cut ≡ size) (list_is : whole_list ≡ bytes)
      (run : 0 < cut → IsChunksExactRun q cut whole_list) (keeps : CallKeepsClosure g f) where
    cuts : IsChunksExactRun q size bytes
    cuts = subst (λ n. IsChunksExactRun q n bytes) cut_is (subst (λ xs. IsChunksExactRun q cut xs) list_is (run (rw cut_is some)))

    asked_in : (k : ℕ) (b : Bool) → IsSomeAnd (p.at k) (λ x. Called g f (x, tt) b f) → bytes_eq (chunk size k bytes) hash.now ≡ b
    asked_in k b h = asked k b (p.at k) (rw (sym (same.2 k)) (cuts.2 k)) h

    -- a search that ends has asked at each of them
    all_asked : IsTrue p.whole → count ≤ p.len
    all_asked w = elim (cases_lt p.len count) [
      | inr h ↦ h
      | inl h ↦ let l = cuts.1 (whole w h) in let c = (le-div_iff_mul-le some).1 room in omega (arith, same.0)
    ]

    pub found : (r : Bool) → MatchBool r (AnyItemGives p g f true) (IsTrue p.whole × AllItemsGive p g f false) → r ≡ listed (chunks size count bytes) hash.now
    found true h = let i = h keeps in sym (listed_at size i.0 count bytes hash.now (omega (arith, i.1)) (asked_in i.0 true i.2))
    found false h =
        sym (listed_nowhere size count bytes hash.now (λ k l.
        asked_in k false (there (p.at k) _ _ (p.reads k hash (omega (arith, all_asked h.0))) (h.1 keeps k))))
