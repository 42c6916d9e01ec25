-- What one call does to a session: a signature of the standing hash from a sample that passed its tests, with one
-- more entry, or no signature and the same entries.
use Rattle.std.proofs.Common.{◌≡◌, ℕ, zero, suc, ◌*◌, ◌<◌, Bool, true, false, cond, ◌⊎◌, List, [], ◌∷◌, ◌++◌, length, drop, ℤ, is_some, Some, None, Option, unwrap_or, refl, inl, inr, arith}
use Rattle.std.specs.List.{AllByRecursion}
use Rattle.std.proofs.lemmas.Bool.{eqb-true, and_parts, not-true}
use Rattle.ring.specs.Classes.{size_of, hash_length_of}
use Rattle.ring.specs.Faults.{Test, first_failing}
use Rattle.ring.specs.declared.class.Class.{Class}
use Rattle.ring.specs.declared.fault.Fault.{Fault}
use Rattle.scheme.specs.Hashes.{hash_pair}
use Rattle.scheme.specs.Keys.{Basis}
use Rattle.scheme.specs.Pairs.{pair_from, numbers_of}
use Rattle.scheme.specs.Sessions.{State, Call, announce, target, sign, withdraw, count, Step}
use Rattle.scheme.specs.Signing.{signature_of, length_of}
use Rattle.scheme.specs.Steps.{standing_hash, standing_pair, listed, announce_tests, sample_tests, sign_tests, tests_of, work, refusal, decided, step}
use Rattle.runs.specs.Issued.{Given, Issue, issue_at}

-- the hash of a standing order: of the class's length, and in none of the entries
abbrev pub Standing : Class → List (List ℕ) → Option (List ℕ) → Type 0
Standing class entries None = Unit {0}
Standing class entries (Some hash) = (length hash ≡ hash_length_of class) × AllByRecursion (λ byte. byte < 256) hash × (listed entries hash ≡ false)

-- a signature made of a sample that passed its tests
pub record Proper (class : Class) (b : Basis) (issue : Issue) : Type 0 where
  pub hash_length : length issue.hash ≡ hash_length_of class
  pub hash_bytes : AllByRecursion (λ byte. byte < 256) issue.hash
  pub sample_length : length issue.sample ≡ 2 * size_of class
  pub passes : first_failing (sample_tests class b (hash_pair (size_of class) issue.hash) (pair_from (size_of class) issue.sample)) ≡ None
  pub signature_is : issue.signature ≡ numbers_of (signature_of b (hash_pair (size_of class) issue.hash) (pair_from (size_of class) issue.sample))
  pub length_is : issue.length ≡ length_of (pair_from (size_of class) issue.sample)

-- the issue of one call, with the entries before and after
abbrev pub Issuing : Class → Basis → List (List ℕ) → List (List ℕ) → List Issue → Type 0
Issuing class b entries entries' here =
    ((here ≡ []) × (entries' ≡ entries))
    ⊎ ((i : Issue) × (here ≡ i ∷ []) × Proper class b i × (listed entries i.hash ≡ false) × (entries' ≡ entries ++ i.hash ∷ []))

pub record Effect (class : Class) (b : Basis) (s : State) (call : Call) (done : Step) : Type 0 where
  pub standing : Standing class done.after.entries done.after.standing
  pub issuing : Issuing class b s.entries done.after.entries (issue_at s call done)

first_passed : (p : Bool) (o : Option Fault) (f : Fault) → cond p o (Some f) ≡ None → (p ≡ true) × (o ≡ None)
first_passed true o f h = (refl, h)
first_passed false o f h = let z : ◌≡◌ {A = ℕ} 0 1 = cc in absurd (omega arith)

-- where no test fails, each passes, and none of those behind the first k fails
pub all_passed : (ts : List Test) → first_failing ts ≡ None → AllByRecursion (λ t. t.passes ≡ true) ts
all_passed [] h = tt
all_passed (t ∷ ts) h = let p = first_passed t.passes (first_failing ts) t.refusal h in (p.0, all_passed ts p.1)

drop_passed : (k : ℕ) (ts : List Test) → first_failing ts ≡ None → first_failing (drop k ts) ≡ None
drop_passed zero ts h = h
drop_passed (suc k) [] h = h
drop_passed (suc k) (t ∷ ts) h = drop_passed k ts (first_passed t.passes (first_failing ts) t.refusal h).1

by_outcome : (P : Step → Type 0) (o : Option Fault) (d : Step) (r : Fault → Step) → (o ≡ None → P d) → ((f : Fault) → P (r f)) → P (decided o d r)
by_outcome P None d r h k = h refl
by_outcome P (Some f) d r h k = k f

module _ (class : Class) (b : Basis) (s : State) (sound : Standing class s.entries s.standing) where
  refusal_effect : (call : Call) (f : Fault) → Effect class b s call (refusal s call f)
  refusal_effect (announce hash) f = record { standing = sound; issuing = inl (refl, refl) }
  refusal_effect (target order area words) f = record { standing = sound; issuing = inl (refl, refl) }
  refusal_effect (sign order sample area words) f = record { standing = sound; issuing = inl (refl, refl) }
  refusal_effect (withdraw order) f = record { standing = sound; issuing = inl (refl, refl) }
  refusal_effect count f = record { standing = sound; issuing = inl (refl, refl) }

  announced : (hash : List ℕ) → AllByRecursion (λ byte. byte < 256) hash → first_failing (announce_tests class s hash) ≡ None → Standing class s.entries (Some hash)
  unfolding announce_tests
  announced hash g h =
      let p = all_passed (announce_tests class s hash) h in
      (eqb-true (length hash) (hash_length_of class) p.0, g, not-true (listed s.entries hash) p.1.1.1.0)

  stands : (o : Option (List ℕ)) → is_some o ≡ true → Standing class s.entries o → Standing class s.entries (Some (unwrap_or o []))
  stands None h k = let z : ◌≡◌ {A = ℕ} 0 1 = cc in absurd (omega arith)
  stands (Some hash) h k = k

  abbrev SignPassed : List ℤ → Type 0
  SignPassed sample =
      (length sample ≡ 2 * size_of class) × Standing class s.entries (Some (standing_hash s))
      × (first_failing (sample_tests class b (hash_pair (size_of class) (standing_hash s)) (pair_from (size_of class) sample)) ≡ None)

  sign_passed : (order : ℕ) (sample : List ℤ) (area words : ℕ) → first_failing (sign_tests class b s order sample area words) ≡ None → SignPassed sample
  unfolding sign_tests standing_pair
  sign_passed order sample area words h =
      let p = all_passed (sign_tests class b s order sample area words) h in (
        eqb-true (length sample) (2 * size_of class) (and_parts _ _ (and_parts _ _ p.0).0).0,
        stands s.standing (and_parts _ _ p.1.0).0 sound,
        drop_passed 2 (sign_tests class b s order sample area words) h,
      )

  work_effect : (call : Call) → Given call → first_failing (tests_of class b s call) ≡ None → Effect class b s call (work class b s call)
  unfolding work standing_pair
  work_effect (announce hash) g h = record { standing = announced hash g h; issuing = inl (refl, refl) }
  work_effect (target order area words) g h = record { standing = sound; issuing = inl (refl, refl) }
  work_effect (sign order sample area words) g h =
      let p = sign_passed order sample (length area) words h in
      record {
        standing = tt;
        issuing = inr (
          _,
          refl,
          record { hash_length = p.1.0; hash_bytes = p.1.1; sample_length = p.0; passes = p.2; signature_is = refl; length_is = refl },
          p.1.2,
          refl,
        );
      }
  work_effect (withdraw order) g h = record { standing = tt; issuing = inl (refl, refl) }
  work_effect count g h = record { standing = sound; issuing = inl (refl, refl) }

  pub effect : (call : Call) → Given call → Effect class b s call (step class b s call)
  unfolding step
  effect call g =
      by_outcome (Effect class b s call) (first_failing (tests_of class b s call)) (work class b s call) (refusal s call) (work_effect call g) (refusal_effect call)
