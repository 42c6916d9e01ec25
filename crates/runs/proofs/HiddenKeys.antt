-- Two sessions on two keys with one form show the same after each call, and so after every list of calls.
use Rattle.std.proofs.Common.{◌≡◌, ℕ, ◌*◌, Bool, true, false, eqb, List, [], ◌∷◌, map, length, drop, ℤ, Some, None, Option, sym, refl, ap, inl, inr, arith}
use Rattle.std.specs.List.{AllZip, AllByRecursion}
use Rattle.std.proofs.lemmas.Bool.{eqb-true, cases_Bool}
use Rattle.ring.specs.Classes.{size_of, hash_length_of}
use Rattle.ring.specs.Faults.{first_failing}
use Rattle.ring.specs.declared.class.Class.{Class}
use Rattle.ring.specs.declared.fault.Fault.{Fault}
use Rattle.scheme.specs.Hashes.{hash_pair}
use Rattle.scheme.specs.Keys.{Basis, IsKey}
use Rattle.scheme.specs.Matrices.{Pair, Matrix, PairOf, applied}
use Rattle.scheme.specs.Pairs.{pair_from}
use Rattle.scheme.specs.Refusals.{session_fault}
use Rattle.scheme.specs.Sessions.{State, Call, announce, target, sign, withdraw, count, refused, aimed, signed, Step, opened}
use Rattle.scheme.specs.Steps.{standing_hash, standing_pair, announce_tests, target_tests, sample_tests, sign_tests, withdraw_tests, tests_of, work, refusal, decided, step, run}
use Rattle.scheme.specs.declared.fault.SessionFault.TheVariants.{Length}
use Rattle.algebra.specs.Isometries.{Joined}
use Rattle.algebra.proofs.Joins.{one_form_one_joiner}
use Rattle.runs.specs.Issued.{Given}
use Rattle.runs.specs.Paired.{moved, paired, moved_target, Alike}
use Rattle.runs.specs.Sealed.{KeysStayHidden}
use Rattle.acceptance.proofs.Points.{pair_from_size, hash_size}
use Rattle.runs.proofs.Applied.{positive}
use Rattle.runs.proofs.Twins.{target_moved, coset_same, length_same, source_same, signature_same, unmoved, moved_pair, length_moved, fits_moved}

-- the same state on a log with other bytes behind the entries
abbrev respared : State → List ℕ → State
respared s p = record { entries = s.entries; standing = s.standing; capacity = s.capacity; spare = p }

-- one step of each session: what both show is the same, and so is what they keep, but for the spare bytes
record Twin (n : ℕ) (u : Matrix) (first second : Step) : Type 0 where
  answer : first.answer ≡ second.answer
  signature : first.signature_area ≡ second.signature_area
  target_written : first.answer ≡ aimed → second.target_area ≡ moved_target n u first.target_area
  target_left : (first.answer ≡ aimed → ⊥) → first.target_area ≡ second.target_area
  spare : List ℕ
  after_is : second.after ≡ respared first.after spare

-- where no target is written
untargeted : (n : ℕ) (u : Matrix) (d d' : Step) → (d.answer ≡ aimed → ⊥) → d.answer ≡ d'.answer → d.signature_area ≡ d'.signature_area
    → d.target_area ≡ d'.target_area → (p : List ℕ) → d'.after ≡ respared d.after p → Twin n u d d'
untargeted n u d d' h a e t p r = record { answer = a; signature = e; target_written = λ k. absurd (h k); target_left = λ k. t; spare = p; after_is = r }

refused_not_aimed : (f : Fault) → refused f ≡ aimed → ⊥
refused_not_aimed f e = let z : ◌≡◌ {A = ℕ} 0 1 = cc in omega arith

twin_refusal : (n : ℕ) (u : Matrix) (s : State) (p : List ℕ) (call : Call) (f : Fault)
    → Twin n u (refusal s call f) (refusal (respared s p) (paired n u call) f)
twin_refusal n u s p (announce hash) f = untargeted n u _ _ (refused_not_aimed f) refl refl refl p refl
twin_refusal n u s p (target order area words) f = untargeted n u _ _ (refused_not_aimed f) refl refl refl p refl
twin_refusal n u s p (sign order sample area words) f = untargeted n u _ _ (refused_not_aimed f) refl refl refl p refl
twin_refusal n u s p (withdraw order) f = untargeted n u _ _ (refused_not_aimed f) refl refl refl p refl
twin_refusal n u s p count f = untargeted n u _ _ (refused_not_aimed f) refl refl refl p refl

-- equal first failures, and twins in both outcomes
twin_decided : (n : ℕ) (u : Matrix) (o : Option Fault) (d d' : Step) (r r' : Fault → Step)
    → Twin n u d d' → ((f : Fault) → Twin n u (r f) (r' f)) → Twin n u (decided o d r) (decided o d' r')
twin_decided n u None d d' r r' h k = h
twin_decided n u (Some f) d d' r r' h k = k f

module _ (class : Class) (b b' : Basis) (key : IsKey (size_of class) b) (j : Joined (size_of class) b b') where
  abbrev size : ℕ
  size = size_of class

  -- the second session, and its call
  abbrev other : State → List ℕ → Call → Step
  other s p call = step class b' (respared s p) (paired size j.by call)

  twin_step : (s : State) (p : List ℕ) (call : Call)
      → first_failing (tests_of class b' (respared s p) (paired size j.by call)) ≡ first_failing (tests_of class b s call)
      → Twin size j.by (work class b s call) (work class b' (respared s p) (paired size j.by call))
      → Twin size j.by (step class b s call) (other s p call)
  unfolding step
  twin_step s p call e w =
      rw e (twin_decided size j.by (first_failing (tests_of class b s call)) _ _ (refusal s call) (refusal (respared s p) (paired size j.by call)) w
      (twin_refusal size j.by s p call))

  -- ---- a sample of 2n numbers
  sample_tests_lem : (h x : Pair) → PairOf size h → PairOf size x → sample_tests class b' h (applied j.by x) ≡ sample_tests class b h x
  unfolding sample_tests
  sample_tests_lem h x p q = rw (
    coset_same size b b' (positive class) key j h x p q,
    length_same size b b' (positive class) key j x q,
    source_same size b b' (positive class) key j x q,
  )

  sign_tests_lem : (s : State) (p : List ℕ) (order : ℕ) (sample : List ℤ) (area words : ℕ) → eqb (length sample) (2 * size) ≡ true
      → sign_tests class b' (respared s p) order (moved size j.by sample) area words ≡ sign_tests class b s order sample area words
  unfolding sign_tests standing_pair
  sign_tests_lem s p order sample area words e = rw (
    length_moved size b b' (positive class) key j sample,
    moved_pair size b b' (positive class) key j sample e,
    sample_tests_lem (hash_pair size (standing_hash s)) (pair_from size sample) (hash_size size (standing_hash s)) (pair_from_size size sample (eqb-true (length sample) (2 * size) e)),
  )

  signed_not_aimed : (k : ℕ) (c : Bool) → signed k c ≡ aimed → ⊥
  signed_not_aimed k c e = let z : ◌≡◌ {A = ℕ} 0 1 = cc in omega arith

  sign_work : (s : State) (p : List ℕ) (order : ℕ) (sample : List ℤ) (area : List ℤ) (words : ℕ) → eqb (length sample) (2 * size) ≡ true
      → Twin size j.by (work class b s (sign order sample area words)) (work class b' (respared s p) (sign order (moved size j.by sample) area words))
  unfolding work standing_pair
  sign_work s p order sample area words e =
      let x = pair_from size sample in
      let q : PairOf size x = pair_from_size size sample (eqb-true (length sample) (2 * size) e) in
      rw (
        moved_pair size b b' (positive class) key j sample e,
        length_same size b b' (positive class) key j x q,
        source_same size b b' (positive class) key j x q,
        signature_same size b b' (positive class) key j (hash_pair size (standing_hash s)) x q,
      )
      (untargeted size j.by _ _ (signed_not_aimed _ _) refl refl refl (drop (hash_length_of class) p) refl)

  -- ---- a sample of another length
  sign_short : (c : Basis) (s : State) (order : ℕ) (sample : List ℤ) (area words : ℕ) → eqb (length sample) (2 * size) ≡ false
      → first_failing (sign_tests class c s order sample area words) ≡ Some (session_fault Length)
  unfolding sign_tests
  sign_short c s order sample area words e = rw e

  sign_refused : (s : State) (p : List ℕ) (order : ℕ) (sample : List ℤ) (area : List ℤ) (words : ℕ) → eqb (length sample) (2 * size) ≡ false
      → Twin size j.by (step class b s (sign order sample area words)) (other s p (sign order sample area words))
  unfolding step
  sign_refused s p order sample area words e =
      rw (
        unmoved size b b' (positive class) key j sample e,
        sign_short b s order sample (length area) words e,
        sign_short b' (respared s p) order sample (length area) words e,
      )
      (untargeted size j.by _ _ (refused_not_aimed (session_fault Length)) refl refl refl p refl)

  -- ---- each call
  twin : (s : State) (p : List ℕ) (call : Call) → Twin size j.by (step class b s call) (other s p call)
  unfolding work announce_tests target_tests withdraw_tests standing_pair
  twin s p (announce hash) =
      twin_step s p (announce hash) refl (untargeted size j.by _ _ (λ e. let z : ◌≡◌ {A = ℕ} 0 1 = cc in omega arith) refl refl refl p refl)
  twin s p (target order area words) = twin_step s p (target order area words) refl record {
    answer = refl;
    signature = refl;
    target_written = λ e. target_moved size b b' (positive class) key j (hash_pair size (standing_hash s)) (hash_size size (standing_hash s));
    target_left = λ h. absurd (h refl);
    spare = p;
    after_is = refl;
  }
  twin s p (sign order sample area words) =
      elim (cases_Bool (eqb (length sample) (2 * size))) [
        | inl e ↦ twin_step s p (sign order sample area words) (ap first_failing (sign_tests_lem s p order sample (length area) words e)) (sign_work s p order sample area words e)
        | inr e ↦ sign_refused s p order sample area words e
      ]
  twin s p (withdraw order) =
      twin_step s p (withdraw order) refl (untargeted size j.by _ _ (λ e. let z : ◌≡◌ {A = ℕ} 0 1 = cc in omega arith) refl refl refl p refl)
  twin s p count =
      twin_step s p count refl (untargeted size j.by _ _ (λ e. let z : ◌≡◌ {A = ℕ} 0 1 = cc in omega arith) refl refl refl p refl)

  -- ---- every list of calls
  alike_runs : (s : State) (p : List ℕ) (calls : List Call) → AllZip (Alike size j.by) (run class b s calls) (run class b' (respared s p) (map (paired size j.by) calls))
  unfolding run
  alike_runs s p [] = tt
  alike_runs s p (call ∷ calls) =
      let t = twin s p call in (
        record {
          answer = t.answer;
          signature = t.signature;
          entries = sym (ap (λ (r : State). r.entries) t.after_is);
          target_written = t.target_written;
          target_left = t.target_left;
        },
        rw t.after_is (alike_runs (step class b s call).after t.spare calls),
      )

  given_moved : (call : Call) → Given call → Given (paired size j.by call)
  given_moved (announce hash) h = h
  given_moved (target order area words) h = h
  given_moved (sign order sample area words) h = fits_moved size b b' (positive class) key j sample 32767 h
  given_moved (withdraw order) h = h
  given_moved count h = h

  all_given : (calls : List Call) → AllByRecursion Given calls → AllByRecursion Given (map (paired size j.by) calls)
  all_given [] h = tt
  all_given (call ∷ calls) h = (given_moved call h.0, all_given calls h.1)

pub keys_stay_hidden : KeysStayHidden
unfolding opened
keys_stay_hidden class b b' key key' same log log' long =
    let j : Joined (size_of class) b b' = one_form_one_joiner (size_of class) b b' (positive class) key key' same in
    record {
      joined = j;
      fits = all_given class b b' key j;
      alike = λ calls. rw (sym long) (alike_runs class b b' key j (opened class log) log' calls);
    }
