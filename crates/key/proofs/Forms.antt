-- What is known of a key in memory and of its form.
use Rattle.std.proofs.Common.{◌≡◌, ℕ, true, List, [], ◌∷◌, length, ℤ, sym, refl, ap, ◌∙◌}
use Rattle.std.specs.List.{AllByRecursion}
use Rattle.std.proofs.lemmas.Bool.{and_from}
use Rattle.ring.specs.Classes.{size_of}
use Rattle.ring.specs.Elements.{adjoint}
use Rattle.ring.specs.declared.class.Class.{Class}
use Rattle.scheme.specs.Keys.{Basis, Gram, gram, IsKey, IsForm, Within, within, all_within, form_limit, key_limit, form_of}
use Rattle.algebra.proofs.Bounds.{forms_of_keys}
use Rattle.algebra.proofs.Counting.{exactly_4n}
use Rattle.algebra.proofs.Joins.{one_form_one_joiner}
use Rattle.key.specs.Held.{basis_of}
use Rattle.key.specs.Making.{starred, Known}
use Rattle.key.specs.Stored.{front, padded}
use Rattle.key.specs.declared.key.Key.{Key}
use Rattle.key.proofs.Taking.{front_padded}
use Rattle.key.proofs.Ranges.{all_from}
use Rattle.key.proofs.Sections.{size_room}

pub all_back : (m : ℕ) (xs : List ℤ) → AllByRecursion (Within m) xs → all_within m xs ≡ true
all_back m [] h = refl
all_back m (x ∷ xs) h = and_from (within m x) (all_within m xs) h.0 (all_back m xs h.1)

-- a key in memory whose elements have the class's size
module _ (key : Key) (f_size : length (basis_of key).f ≡ size_of key.class) (g_size : length (basis_of key).g ≡ size_of key.class)
    (F_size : length (basis_of key).F ≡ size_of key.class) (G_size : length (basis_of key).G ≡ size_of key.class) where
  pub key_is : IsKey (size_of key.class) (basis_of key)
  key_is = record {
    f_size = f_size;
    g_size = g_size;
    F_size = F_size;
    G_size = G_size;
    f_small = all_from key_limit (basis_of key).f key.small_f;
    g_small = all_from key_limit (basis_of key).g key.small_g;
    F_small = all_from key_limit (basis_of key).F key.small_cap_f;
    G_small = all_from key_limit (basis_of key).G key.small_cap_g;
    f_odd = key.odd_f;
    g_odd = key.odd_g;
    unit_determinant = key.unit_determinant;
  }

  pub form_is : IsForm (size_of key.class) (form_of (basis_of key))
  form_is = forms_of_keys (size_of key.class) (basis_of key) (size_room key.class).0 (size_room key.class).1 key_is

  pub known_is : Known key
  known_is = record {
    is_key = key_is;
    is_form = form_is;
    belongs = exactly_4n (size_of key.class) (basis_of key) (size_room key.class).0 key_is;
    joined = λ b' h e. one_form_one_joiner (size_of key.class) (basis_of key) b' (size_room key.class).0 key_is h e;
  }

-- the three elements of a form, as `row` gives them
pub q00_is : (b : Basis) → starred b.f b.f b.g b.g ≡ (form_of b).q00
unfolding starred form_of
q00_is b = refl

pub q01_is : (b : Basis) → starred b.f b.F b.g b.G ≡ (form_of b).q01
unfolding starred form_of
q01_is b = refl

pub q11_is : (b : Basis) → starred b.F b.F b.G b.G ≡ (form_of b).q11
unfolding starred form_of
q11_is b = refl

-- an element in memory that holds q
pub stored_small : (class : Class) (memory q : List ℤ) → memory ≡ padded q → length q ≡ size_of class → AllByRecursion (Within form_limit) q → all_within form_limit (front class memory) ≡ true
stored_small class memory q e size small = ap (λ xs. all_within form_limit (front class xs)) e ∙ ap (all_within form_limit) (front_padded class q size) ∙ all_back form_limit q small

pub stored_selfadjoint : (class : Class) (memory q : List ℤ) → memory ≡ padded q → length q ≡ size_of class → q ≡ adjoint q → front class memory ≡ adjoint (front class memory)
stored_selfadjoint class memory q e size same =
    let is : front class memory ≡ q = ap (front class) e ∙ front_padded class q size in
    is ∙ same ∙ ap adjoint (sym is)

pub gram_is : (class : Class) (m00 m01 m11 : List ℤ) (q : Gram) → m00 ≡ padded q.q00 → m01 ≡ padded q.q01 → m11 ≡ padded q.q11 → IsForm (size_of class) q
    → gram (front class m00) (front class m01) (front class m11) ≡ q
gram_is class m00 m01 m11 q e00 e01 e11 form =
    let is00 : front class m00 ≡ q.q00 = ap (front class) e00 ∙ front_padded class q.q00 form.q00_size in
    let is01 : front class m01 ≡ q.q01 = ap (front class) e01 ∙ front_padded class q.q01 form.q01_size in
    let is11 : front class m11 ≡ q.q11 = ap (front class) e11 ∙ front_padded class q.q11 form.q11_size in
    rw (is00, is01, is11)
