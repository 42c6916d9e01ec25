-- Written slips load as what was written.
use Rattle.std.proofs.Common.{◌≡◌, ℕ, ◌*◌, ◌<◌, true, List, [], ◌∷◌, length, get_or, ℤ, pos, None, sym, refl, ap, ◌∙◌, arith, lit<}
use Rattle.std.specs.List.{prefix_len, AllByRecursion}
use Rattle.std.proofs.lemmas.Bool.{eq-eqb}
use Rattle.ring.specs.Classes.{size_of}
use Rattle.ring.specs.Elements.{total, difference, constant, adjoint}
use Rattle.ring.specs.Faults.{first_failing}
use Rattle.ring.specs.declared.class.Class.{Class}
use Rattle.ring.proofs.Places.{length_constant}
use Rattle.scheme.specs.Pairs.{is_zero}
use Rattle.scheme.specs.Keys.{Basis, Gram, all_within, odd, determinant, key_limit, form_limit}
use Rattle.slip.proofs.Bytes.{length_bytes8, length_bytes32}
use Rattle.slip.specs.Kinds.{part_of}
use Rattle.slip.specs.Numbers.{bytes8, bytes32, numbers8, numbers32}
use Rattle.slip.specs.Slips.{slip_tests, size_named}
use Rattle.slip.specs.Trailers.{Passes}
use Rattle.slip.specs.declared.kind.Kind.TheVariants.{Key, Form}
use Rattle.key.specs.FormLoading.{form_numbers_in, gram_in, form_body_tests, form_tests, first_unlike}
use Rattle.key.specs.Loading.{numbers_in, basis_in, excess, body_tests, key_tests}
use Rattle.key.specs.Refusals.{key_fault, form_fault}
use Rattle.key.specs.Writing.{key_slip, form_slip}
use Rattle.key.specs.declared.fault.FormFault.TheVariants.{Scratch as FormScratch}
use Rattle.key.specs.declared.fault.KeyFault.TheVariants.{Scratch}
use Rattle.key.proofs.Adjoints.{selfadjoint_never}
use Rattle.key.proofs.Body.{after_scratch}
use Rattle.key.proofs.Differences.{never_differs}
use Rattle.key.proofs.Sound.{all_sound}
use Rattle.key.proofs.Written.{parts_pass, part_read}

-- an element of the class, whose bytes read as the element
pub record Reads (limit : ℕ) (bytes : List ℤ → List ℕ) (numbers : List ℕ → List ℤ) (class : Class) (xs : List ℤ) : Type 0 where
  pub size : length xs ≡ size_of class
  pub small : all_within limit xs ≡ true
  pub back : numbers (bytes xs) ≡ xs

pub reads : {limit : ℕ} {bytes : List ℤ → List ℕ} {numbers : List ℕ → List ℤ} (class : Class) (xs ys : List ℤ) → xs ≡ ys → length xs ≡ size_of class → all_within limit ys ≡ true → numbers (bytes xs) ≡ xs
    → Reads limit bytes numbers class ys
reads class xs ys e size small back = record { size = ap length (sym e) ∙ size; small = small; back = rw e at back }

abbrev pub Reads8 : Class → List ℤ → Type 0
Reads8 = Reads key_limit bytes8 numbers8

abbrev pub Reads32 : Class → List ℤ → Type 0
Reads32 = Reads form_limit bytes32 numbers32

module _ (class : Class) (b : Basis) (file : List ℕ) (is : file ≡ key_slip class b)
    (f : Reads8 class b.f) (g : Reads8 class b.g) (F : Reads8 class b.F) (G : Reads8 class b.G) where
  parts8 : List (List ℕ)
  parts8 = bytes8 b.f ∷ bytes8 b.g ∷ bytes8 b.F ∷ bytes8 b.G ∷ []

  long8 : (xs : List ℤ) → Reads8 class xs → length (bytes8 xs) ≡ part_of Key (size_of class)
  long8 xs r = length_bytes8 xs ∙ r.size ∙ omega arith

  all8 : AllByRecursion (λ l. length l ≡ part_of Key (size_of class)) parts8
  unfolding parts8
  all8 = (long8 b.f f, (long8 b.g g, (long8 b.F F, (long8 b.G G, tt))))

  pub key_passes : Passes Key class file
  unfolding key_slip parts8
  key_passes = parts_pass Key class parts8 file is all8 refl

  read8 : (i : ℕ) → i < 4 → numbers_in file i ≡ numbers8 (get_or parts8 i [])
  unfolding key_slip numbers_in parts8
  read8 i h = ap numbers8 (part_read Key class parts8 file is all8 refl i h)

  read8_0 : numbers_in file 0 ≡ b.f
  unfolding parts8
  read8_0 = read8 0 (lit< tt) ∙ f.back

  read8_1 : numbers_in file 1 ≡ b.g
  unfolding parts8
  read8_1 = read8 1 (lit< tt) ∙ g.back

  read8_2 : numbers_in file 2 ≡ b.F
  unfolding parts8
  read8_2 = read8 2 (lit< tt) ∙ F.back

  read8_3 : numbers_in file 3 ≡ b.G
  unfolding parts8
  read8_3 = read8 3 (lit< tt) ∙ G.back

  pub basis_back : basis_in file ≡ b
  unfolding basis_in
  basis_back = rw (read8_0, read8_1, read8_2, read8_3)

  sound_excess : determinant b ≡ constant (size_of class) (pos 1) → prefix_len is_zero (excess (size_of class) b) ≡ size_of class
  unfolding excess
  sound_excess e = ap (λ d. prefix_len is_zero (difference d (constant (size_of class) (pos 1)))) e ∙ never_differs (constant (size_of class) (pos 1)) ∙ length_constant (size_of class) (pos 1)

  pub key_loads : odd (total b.f) ≡ true → odd (total b.g) ≡ true → determinant b ≡ constant (size_of class) (pos 1) → first_failing (key_tests file (4 * size_of class)) ≡ None
  unfolding key_tests body_tests
  key_loads odd-f odd-g unit =
      let r0 = ap (all_within key_limit) read8_0 ∙ f.small in
      let r1 = ap (all_within key_limit) read8_1 ∙ g.small in
      let r2 = ap (all_within key_limit) read8_2 ∙ F.small in
      let r3 = ap (all_within key_limit) read8_3 ∙ G.small in
      after_scratch (slip_tests Key file) (body_tests file) (key_fault Scratch) (4 * size_of class) (size_named file) key_passes.tests (ap (λ n. 4 * n) (sym key_passes.size))
      ∙ rw (r0, r1, r2, r3, basis_back, key_passes.size) (all_sound (size_of class) b odd-f odd-g (sound_excess unit))

module _ (class : Class) (q : Gram) (file : List ℕ) (is : file ≡ form_slip class q)
    (q00 : Reads32 class q.q00) (q01 : Reads32 class q.q01) (q11 : Reads32 class q.q11) where
  parts32 : List (List ℕ)
  parts32 = bytes32 q.q00 ∷ bytes32 q.q01 ∷ bytes32 q.q11 ∷ []

  long32 : (xs : List ℤ) → Reads32 class xs → length (bytes32 xs) ≡ part_of Form (size_of class)
  long32 xs r = length_bytes32 xs ∙ ap (λ n. 4 * n) r.size

  all32 : AllByRecursion (λ l. length l ≡ part_of Form (size_of class)) parts32
  unfolding parts32
  all32 = (long32 q.q00 q00, (long32 q.q01 q01, (long32 q.q11 q11, tt)))

  pub form_passes : Passes Form class file
  unfolding form_slip parts32
  form_passes = parts_pass Form class parts32 file is all32 refl

  read32 : (i : ℕ) → i < 3 → form_numbers_in file i ≡ numbers32 (get_or parts32 i [])
  unfolding form_slip form_numbers_in parts32
  read32 i h = ap numbers32 (part_read Form class parts32 file is all32 refl i h)

  read32_0 : form_numbers_in file 0 ≡ q.q00
  unfolding parts32
  read32_0 = read32 0 (lit< tt) ∙ q00.back

  read32_1 : form_numbers_in file 1 ≡ q.q01
  unfolding parts32
  read32_1 = read32 1 (lit< tt) ∙ q01.back

  read32_2 : form_numbers_in file 2 ≡ q.q11
  unfolding parts32
  read32_2 = read32 2 (lit< tt) ∙ q11.back

  pub gram_back : gram_in file ≡ q
  unfolding gram_in
  gram_back = rw (read32_0, read32_1, read32_2)

  pub form_loads : q.q00 ≡ adjoint q.q00 → q.q11 ≡ adjoint q.q11 → first_failing (form_tests file (4 * size_of class)) ≡ None
  unfolding form_tests form_body_tests
  form_loads self00 self11 =
      let like00 = eq-eqb (first_unlike q.q00) (length q.q00) (selfadjoint_never q.q00 self00) in
      let like11 = eq-eqb (first_unlike q.q11) (length q.q11) (selfadjoint_never q.q11 self11) in
      after_scratch (slip_tests Form file) (form_body_tests file) (form_fault FormScratch) (4 * size_of class) (size_named file) form_passes.tests (ap (λ n. 4 * n) (sym form_passes.size))
      ∙ rw (read32_0, read32_1, read32_2, q00.small, q01.small, q11.small, like00, like11)
