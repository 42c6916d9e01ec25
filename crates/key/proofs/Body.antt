-- The tests of a key slip's body, put together.
use Rattle.std.proofs.Common.{◌≡◌, ℕ, ◌*◌, true, eqb, List, [], ◌∷◌, ◌++◌, length, ℤ, pos, Some, None, sym, refl, ap, ◌∙◌, arith}
use Rattle.std.proofs.lemmas.Bool.{eq-eqb, ne_eqb}
use Rattle.ring.specs.Classes.{size_of}
use Rattle.ring.specs.Elements.{constant, total}
use Rattle.ring.specs.Faults.{Test, test, first_failing}
use Rattle.ring.specs.declared.fault.Fault.{Fault}
use Rattle.ring.proofs.Firsts.{first_after, first_before}
use Rattle.scheme.specs.Keys.{basis, odd, determinant, key_limit}
use Rattle.slip.specs.Slips.{size_named}
use Rattle.slip.specs.declared.reader.Slip.{Slip}
use Rattle.key.specs.Fours.{basis_as}
use Rattle.key.specs.Loading.{numbers_in, basis_in, range_test, sound_tests, body_tests}
use Rattle.key.specs.Words.{SmallWords, FourWords}
use Rattle.key.specs.declared.key.words.Words.{Words}
use Rattle.key.proofs.Determinants.{unit_from}
use Rattle.key.proofs.Sections.{size_room}
use Rattle.key.proofs.Sound.{sound_parts}
use Rattle.key.proofs.Taking.{size_is, Element}

-- section i is in range
abbrev InRange : List ℕ → ℕ → Type 0
InRange file i = first_failing (range_test file i ∷ []) ≡ None

module _ (file : List ℕ) where
  after0 : InRange file 0 → first_failing (body_tests file) ≡ first_failing (range_test file 1 ∷ range_test file 2 ∷ range_test file 3 ∷ sound_tests (size_named file) (basis_in file))
  unfolding body_tests
  after0 h = first_after (range_test file 0 ∷ []) (range_test file 1 ∷ range_test file 2 ∷ range_test file 3 ∷ sound_tests (size_named file) (basis_in file)) h

  after1 : InRange file 0 → InRange file 1 → first_failing (body_tests file) ≡ first_failing (range_test file 2 ∷ range_test file 3 ∷ sound_tests (size_named file) (basis_in file))
  after1 h k = after0 h ∙ first_after (range_test file 1 ∷ []) (range_test file 2 ∷ range_test file 3 ∷ sound_tests (size_named file) (basis_in file)) k

  after2 : InRange file 0 → InRange file 1 → InRange file 2 → first_failing (body_tests file) ≡ first_failing (range_test file 3 ∷ sound_tests (size_named file) (basis_in file))
  after2 h k l = after1 h k ∙ first_after (range_test file 2 ∷ []) (range_test file 3 ∷ sound_tests (size_named file) (basis_in file)) l

  pub after_ranges : InRange file 0 → InRange file 1 → InRange file 2 → InRange file 3 → first_failing (body_tests file) ≡ first_failing (sound_tests (size_named file) (basis_in file))
  after_ranges h k l m = after2 h k l ∙ first_after (range_test file 3 ∷ []) (sound_tests (size_named file) (basis_in file)) m

  pub stops_0 : (e : Fault) → first_failing (range_test file 0 ∷ []) ≡ Some e → first_failing (body_tests file) ≡ Some e
  unfolding body_tests
  stops_0 e h = first_before (range_test file 0 ∷ []) (range_test file 1 ∷ range_test file 2 ∷ range_test file 3 ∷ sound_tests (size_named file) (basis_in file)) e h

  pub stops_1 : (e : Fault) → InRange file 0 → first_failing (range_test file 1 ∷ []) ≡ Some e → first_failing (body_tests file) ≡ Some e
  stops_1 e h s = after0 h ∙ first_before (range_test file 1 ∷ []) (range_test file 2 ∷ range_test file 3 ∷ sound_tests (size_named file) (basis_in file)) e s

  pub stops_2 : (e : Fault) → InRange file 0 → InRange file 1 → first_failing (range_test file 2 ∷ []) ≡ Some e → first_failing (body_tests file) ≡ Some e
  stops_2 e h k s = after1 h k ∙ first_before (range_test file 2 ∷ []) (range_test file 3 ∷ sound_tests (size_named file) (basis_in file)) e s

  pub stops_3 : (e : Fault) → InRange file 0 → InRange file 1 → InRange file 2 → first_failing (range_test file 3 ∷ []) ≡ Some e → first_failing (body_tests file) ≡ Some e
  stops_3 e h k l s = after2 h k l ∙ first_before (range_test file 3 ∷ []) (sound_tests (size_named file) (basis_in file)) e s

-- the four sections of a key slip, in memory
module _ (s : Slip) (f g F G : List ℤ) (f_in : Element key_limit (size_of s.class) (numbers_in s.file.now 0) f) (g_in : Element key_limit (size_of s.class) (numbers_in s.file.now 1) g)
    (F_in : Element key_limit (size_of s.class) (numbers_in s.file.now 2) F) (G_in : Element key_limit (size_of s.class) (numbers_in s.file.now 3) G) where
  small : (xs memory : List ℤ) → Element key_limit (size_of s.class) xs memory → SmallWords xs
  small xs memory e = record { few = omega (arith, e.long, size_room s.class); small = e.small }

  four : FourWords (numbers_in s.file.now 0) (numbers_in s.file.now 1) (numbers_in s.file.now 2) (numbers_in s.file.now 3)
  four = record {
    f_words = small (numbers_in s.file.now 0) f f_in;
    g_words = small (numbers_in s.file.now 1) g g_in;
    F_words = small (numbers_in s.file.now 2) F F_in;
    G_words = small (numbers_in s.file.now 3) G G_in;
    g_long = g_in.long ∙ sym f_in.long;
    F_long = F_in.long ∙ sym f_in.long;
    G_long = G_in.long ∙ sym f_in.long;
  }

  -- where they passed their tests
  module _ (none : first_failing (sound_tests (size_named s.file.now) (basis_in s.file.now)) ≡ None) where
    pub f_odd : odd (total (numbers_in s.file.now 0)) ≡ true
    unfolding basis_in
    f_odd = (sound_parts (size_named s.file.now) (basis_in s.file.now) none).0

    pub g_odd : odd (total (numbers_in s.file.now 1)) ≡ true
    unfolding basis_in
    g_odd = (sound_parts (size_named s.file.now) (basis_in s.file.now) none).1

    pub unit : determinant (basis (numbers_in s.file.now 0) (numbers_in s.file.now 1) (numbers_in s.file.now 2) (numbers_in s.file.now 3)) ≡ constant (size_of s.class) (pos 1)
    unfolding basis_in
    unit =
        let right = (sound_parts (size_named s.file.now) (basis_in s.file.now) none).2 in
        let size : size_named s.file.now ≡ length (numbers_in s.file.now 0) = size_is s ∙ sym f_in.long in
        unit_from (numbers_in s.file.now 0) (numbers_in s.file.now 1) (numbers_in s.file.now 2) (numbers_in s.file.now 3) four (rw size at right) ∙ ap (λ n. constant n (pos 1)) f_in.long

  -- the numbers that are read out of the memory again
  module _ (uf ug uF uG : List ℤ) (f_is : uf ≡ numbers_in s.file.now 0) (g_is : ug ≡ numbers_in s.file.now 1) (F_is : uF ≡ numbers_in s.file.now 2) (G_is : uG ≡ numbers_in s.file.now 3) where
    pub four_used : FourWords uf ug uF uG
    four_used = rw (f_is, g_is, F_is, G_is) four

    pub sound_is : (w : Words) → basis_as w ≡ basis uf ug uF uG → sound_tests (length w.f.now) (basis_as w) ≡ sound_tests (size_named s.file.now) (basis_in s.file.now)
    unfolding basis_in
    sound_is w e =
        let long : length w.f.now ≡ size_named s.file.now = ap (λ b. length b.f) e ∙ ap length f_is ∙ f_in.long ∙ sym (size_is s) in
        rw (e, long, f_is, g_is, F_is, G_is) refl

-- a scratch of 4n words, asked for after some tests and before others
module _ (ts us : List Test) (f : Fault) (words n : ℕ) where
  pub scratch_fails : first_failing ts ≡ None → (words ≡ 4 * n → ⊥) → first_failing (ts ++ (test (eqb words (4 * n)) f ∷ us)) ≡ Some f
  scratch_fails h other =
      let off = ne_eqb words (4 * n) other in
      first_after ts (test (eqb words (4 * n)) f ∷ us) h ∙ rw off

  pub after_scratch : first_failing ts ≡ None → words ≡ 4 * n → first_failing (ts ++ (test (eqb words (4 * n)) f ∷ us)) ≡ first_failing us
  after_scratch h same =
      let on = eq-eqb words (4 * n) same in
      first_after ts (test (eqb words (4 * n)) f ∷ us) h ∙ rw on
