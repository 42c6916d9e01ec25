-- Every run of a session is lawful.
use Rattle.std.proofs.Common.{◌≡◌, ℕ, ◌*◌, false, List, [], ◌∷◌, ◌++◌, map, ℤ, None, sym, refl, ap, ◌∙◌, inl, inr}
use Rattle.std.specs.List.{AllByRecursion}
use Rattle.std.specs.Str.{bytes_eq}
use Rattle.std.proofs.ByRecursion.{All-map, All-weaker}
use Rattle.std.proofs.lemmas.Slice.Eq.{bytes_eq-Decides}
use Rattle.std.proofs.lemmas.List.{append-nil, append_assoc}
use Rattle.std.proofs.lemmas.Bool.{or_parts, or_from}
use Rattle.std.proofs.lemmas.Bool.Decides.{not_from_Decides}
use Rattle.ring.specs.Classes.{size_of, hash_length_of}
use Rattle.ring.specs.Faults.{first_failing}
use Rattle.ring.specs.declared.class.Class.{Class}
use Rattle.ring.specs.declared.class.Class.TheVariants.{One, Two, Three, Four}
use Rattle.scheme.specs.Hashes.{hash_pair}
use Rattle.scheme.specs.Keys.{Basis, IsKey}
use Rattle.scheme.specs.Matrices.{Pair, applied, basis_of}
use Rattle.scheme.specs.Pairs.{pair_from, parities}
use Rattle.scheme.specs.Sessions.{State, Call, opened}
use Rattle.scheme.specs.Signing.{target_of}
use Rattle.scheme.specs.Steps.{listed, sample_tests, step, run}
use Rattle.algebra.specs.Isometries.{Congruent}
use Rattle.algebra.proofs.Bridges.{key_size}
use Rattle.algebra.proofs.Joins.{invertible_modulo_two}
use Rattle.acceptance.specs.Issuing.{IssuedIsAccepted}
use Rattle.runs.specs.Issued.{Given, Issue, issue_at, issues_of, Different, Stands, entries_after}
use Rattle.runs.specs.Sealed.{SessionsAreLawful}
use Rattle.runs.proofs.Bytes.{same_bytes}
use Rattle.acceptance.proofs.Points.{pair_from_size, hash_size, parities_congruent}
use Rattle.acceptance.proofs.Bases.{applied_size}
use Rattle.runs.proofs.Applied.{positive}
use Rattle.runs.proofs.Effects.{Standing, Proper, Issuing, all_passed, effect}

-- a hash outside the entries and one more is outside both
listed_push : (entries : List (List ℕ)) (hash other : List ℕ) → listed (entries ++ hash ∷ []) other ≡ false → (listed entries other ≡ false) × (hash ≡ other → ⊥)
unfolding listed
listed_push [] hash other h = (refl, not_from_Decides (bytes_eq hash other) (bytes_eq-Decides hash other) (or_parts (bytes_eq hash other) false h).0)
listed_push (entry ∷ entries) hash other h =
    let p = or_parts (bytes_eq entry other) (listed (entries ++ hash ∷ []) other) h in
    let q = listed_push entries hash other p.1 in
    (or_from (bytes_eq entry other) (listed entries other) p.0 q.0, q.1)

abbrev hashes : List Issue → List (List ℕ)
hashes issues = map (λ i. i.hash) issues

abbrev samples : List Issue → List (List ℤ)
samples issues = map (λ i. i.sample) issues

-- the signatures of a run, with the entries before and after it
record Course (class : Class) (b : Basis) (entries final : List (List ℕ)) (issues : List Issue) : Type 0 where
  proper : AllByRecursion (Proper class b) issues
  fresh : AllByRecursion (λ i. listed entries i.hash ≡ false) issues
  differ : Different (hashes issues)
  entries_are : final ≡ entries ++ hashes issues

module _ (class : Class) (b : Basis) where
  more_course : (entries final : List (List ℕ)) (i : Issue) (issues : List Issue) → Proper class b i → listed entries i.hash ≡ false
      → Course class b (entries ++ i.hash ∷ []) final issues → Course class b entries final (i ∷ issues)
  more_course entries final i issues p l c = record {
    proper = (p, c.proper);
    fresh = (l, All-weaker (λ k. listed (entries ++ i.hash ∷ []) k.hash ≡ false) (λ k. listed entries k.hash ≡ false) (λ k h. (listed_push entries i.hash k.hash h).0) issues c.fresh);
    differ = (
      All-map (λ y. i.hash ≡ y → ⊥) (λ k. k.hash) issues
          (All-weaker (λ k. listed (entries ++ i.hash ∷ []) k.hash ≡ false) (λ k. i.hash ≡ k.hash → ⊥) (λ k h. (listed_push entries i.hash k.hash h).1) issues c.fresh),
      c.differ,
    );
    entries_are = c.entries_are ∙ append_assoc entries (i.hash ∷ []) (hashes issues);
  }

  joined : (entries entries' final : List (List ℕ)) (here issues : List Issue) → Issuing class b entries entries' here
      → Course class b entries' final issues → Course class b entries final (here ++ issues)
  joined entries entries' final here issues (inl q) c = rw (q.0, ← q.1) c
  joined entries entries' final here issues (inr q) c =
      rw q.1 (more_course entries final q.0 issues q.2 q.3 (rw q.4 at c))

  course : (s : State) → Standing class s.entries s.standing → (calls : List Call) → AllByRecursion Given calls
      → Course class b s.entries (entries_after s (run class b s calls)) (issues_of (run class b s calls))
  unfolding run issues_of
  course s sound [] g = record { proper = tt; fresh = tt; differ = tt; entries_are = sym (append-nil s.entries) }
  course s sound (call ∷ calls) g =
      let e = effect class b s sound call g.0 in
      let done = step class b s call in
      joined s.entries done.after.entries _ (issue_at s call done) _ e.issuing (course done.after e.standing calls g.1)

eight_bits : (class : Class) → hash_length_of class * 8 ≡ 2 * size_of class
eight_bits One = refl
eight_bits Two = refl
eight_bits Three = refl
eight_bits Four = refl

module _ (class : Class) (b : Basis) (key : IsKey (size_of class) b) where
  abbrev size : ℕ
  size = size_of class

  in_coset : (h x : Pair) → first_failing (sample_tests class b h x) ≡ None → parities x ≡ target_of b h
  unfolding sample_tests
  in_coset h x e = (bytes_eq-Decides (parities x) (target_of b h)).0 (all_passed (sample_tests class b h x) e).0

  -- a target determines the bits
  same_target : (g h : List ℕ) → target_of b (hash_pair size g) ≡ target_of b (hash_pair size h) → Congruent 2 (hash_pair size g) (hash_pair size h)
  unfolding target_of
  same_target g h e =
      let m = basis_of b in
      let s = key_size size b key in
      (invertible_modulo_two size b (positive class) key).determines (hash_pair size g) (hash_pair size h) (hash_size size g) (hash_size size h)
      (parities_congruent size (applied m (hash_pair size g)) (applied m (hash_pair size h)) (applied_size size m (hash_pair size g) s) (applied_size size m (hash_pair size h) s) e)

  -- a sample determines the hash
  same_hash : (i k : Issue) → Proper class b i → Proper class b k → i.sample ≡ k.sample → i.hash ≡ k.hash
  same_hash i k p q e =
      let t : target_of b (hash_pair size i.hash) ≡ target_of b (hash_pair size k.hash) =
      sym (in_coset _ _ p.passes) ∙ ap (λ z. parities (pair_from size z)) e ∙ in_coset _ _ q.passes in
      same_bytes size i.hash k.hash (ap (λ l. l * 8) p.hash_length ∙ eight_bits class) (p.hash_length ∙ sym q.hash_length) p.hash_bytes q.hash_bytes
      (same_target i.hash k.hash t)

  sample_apart : (i : Issue) (issues : List Issue) → Proper class b i → AllByRecursion (Proper class b) issues → AllByRecursion (λ y. i.hash ≡ y → ⊥) (hashes issues)
      → AllByRecursion (λ y. i.sample ≡ y → ⊥) (samples issues)
  sample_apart i [] p q h = tt
  sample_apart i (k ∷ issues) p q h = (λ e. h.0 (same_hash i k p q.0 e), sample_apart i issues p q.1 h.1)

  samples_apart : (issues : List Issue) → AllByRecursion (Proper class b) issues → Different (hashes issues) → Different (samples issues)
  samples_apart [] p h = tt
  samples_apart (i ∷ issues) p h = (sample_apart i issues p.0 p.1 h.0, samples_apart issues p.1 h.1)

  standing : IssuedIsAccepted → (i : Issue) → Proper class b i → Stands class b i
  standing accepts i p =
      let ok = accepts class b key i.hash p.hash_length (pair_from size i.sample) (pair_from_size size i.sample p.sample_length) p.passes in
      record { accepted = rw (p.signature_is, p.length_is) ok; length_is = p.length_is }

pub lawful : IssuedIsAccepted → SessionsAreLawful
unfolding opened
lawful accepts class b key log calls given =
    let c = course class b (opened class log) tt calls given in
    record {
      stand = All-weaker (Proper class b) (Stands class b) (standing class b key accepts) _ c.proper;
      hashes_differ = c.differ;
      samples_differ = samples_apart class b key _ c.proper c.differ;
      entries_are = c.entries_are;
    }
