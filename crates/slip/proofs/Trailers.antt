-- A file that ends with a slip's trailer passes the slip's tests.
use Rattle.std.proofs.Common.{◌≡◌, ℕ, ◌+◌, ◌-◌, ◌^◌, ◌<◌, ◌≤◌, true, ◌||◌, leb, List, [], ◌∷◌, ◌++◌, length, get_or, take, is_some, Some, sym, refl, ap, ◌∙◌, append_assoc, arith, lit<, length-append}
use Rattle.std.proofs.lemmas.Bool.{le-leb, eq-eqb}
use Rattle.ring.specs.declared.class.Class.{Class}
use Rattle.ring.specs.declared.class.Class.TheVariants.{One, Two, Three, Four}
use Rattle.ring.specs.Classes.{size_of, code_of, with_code}
use Rattle.slip.specs.declared.kind.Kind.{Kind}
use Rattle.slip.specs.declared.kind.Kind.TheVariants.{Key, Form, Signature}
use Rattle.slip.specs.Kinds.{byte_of, sections_of, bytes_of, body_of, takes_report}
use Rattle.slip.specs.Numbers.{split16, split32}
use Rattle.slip.specs.Slips.{at16, at32, back, class_named, size_named, size_in, slip_tests}
use Rattle.slip.specs.Trailers.{Holds, Passes}
use Rattle.slip.specs.Writes.{trailer_of, written}
use Rattle.slip.proofs.Areas.{written_end}
use Rattle.slip.specs.Laws.{behind, at32_behind}
use Rattle.slip.proofs.Bytes.{at32_front}

body_small : (kind : Kind) (class : Class) → body_of kind class + 8 < 2 ^ 32
body_small Key One = lit< tt
body_small Key Two = lit< tt
body_small Key Three = lit< tt
body_small Key Four = lit< tt
body_small Form One = lit< tt
body_small Form Two = lit< tt
body_small Form Three = lit< tt
body_small Form Four = lit< tt
body_small Signature One = lit< tt
body_small Signature Two = lit< tt
body_small Signature Three = lit< tt
body_small Signature Four = lit< tt

sections_back : (kind : Kind) (rest : List ℕ) → at16 (split16 (sections_of kind) ++ rest) 0 ≡ sections_of kind
unfolding at16 split16
sections_back Key rest = refl
sections_back Form rest = refl
sections_back Signature rest = refl

code_back : (class : Class) → with_code (code_of class) ≡ Some class
code_back One = refl
code_back Two = refl
code_back Three = refl
code_back Four = refl

pub length_trailer : (kind : Kind) (class : Class) → length (trailer_of kind class) ≡ 8
unfolding trailer_of split16 split32
length_trailer kind class = refl

at16_behind : (front rest : List ℕ) (p k : ℕ) → p ≡ length front + k → at16 (front ++ rest) p ≡ at16 rest k
unfolding at16
at16_behind front rest p k e = rw (behind front rest p k e, behind front rest (p + 1) (k + 1) (omega arith))

module _ (kind : Kind) (class : Class) (front file : List ℕ) (e : file ≡ front ++ trailer_of kind class) where
  long : length file ≡ length front + 8
  long = ap length e ∙ length-append front (trailer_of kind class) ∙ ap (λ n. length front + n) (length_trailer kind class)

  kind_is : get_or file (length file - 8) 0 ≡ byte_of kind
  unfolding trailer_of
  kind_is = ap (λ f. get_or f (length file - 8) 0) e ∙ behind front (trailer_of kind class) (length file - 8) 0 (omega (arith, long))

  class_is : class_named file ≡ Some class
  unfolding class_named trailer_of
  class_is = ap with_code (ap (λ f. get_or f (length file - 7) 0) e ∙ behind front (trailer_of kind class) (length file - 7) 1 (omega (arith, long))) ∙ code_back class

  size_is : size_named file ≡ size_of class
  unfolding size_named
  size_is = ap size_in class_is

  sections_is : at16 file (length file - 6) ≡ sections_of kind
  unfolding trailer_of split16
  sections_is =
      ap (λ f. at16 f (length file - 6)) e
      ∙ at16_behind front (trailer_of kind class) (length file - 6) 2 (omega (arith, long))
      ∙ at16_behind (byte_of kind ∷ code_of class ∷ []) (split16 (sections_of kind) ++ split32 (body_of kind class + 8)) 2 0 refl
      ∙ sections_back kind (split32 (body_of kind class + 8))

  back_is : back file ≡ body_of kind class + 8
  unfolding back trailer_of split16 split32
  back_is =
      ap (λ f. at32 f (length file - 4)) e
      ∙ at32_behind front (trailer_of kind class) (length file - 4) 4 (omega (arith, long))
      ∙ at32_behind (byte_of kind ∷ code_of class ∷ split16 (sections_of kind)) (split32 (body_of kind class + 8) ++ []) 4 0 refl
      ∙ at32_front (body_of kind class + 8) [] (body_small kind class)

  pub trailer_passes : Holds kind class file → Passes kind class file
  unfolding slip_tests
  trailer_passes h =
      let b = back_is in
      let long-enough : leb 8 (length file) ≡ true = le-leb 8 (length file) (omega (arith, long)) in
      let kind-right = eq-eqb (get_or file (length file - 8) 0) (byte_of kind) kind_is in
      let class-right = ap is_some class_is in
      let sections-right = eq-eqb (at16 file (length file - 6)) (sections_of kind) sections_is in
      let back-right = eq-eqb (back file) (bytes_of kind (size_named file) + 8) (b ∙ ap (λ n. bytes_of kind n + 8) (sym size_is)) in
      let room = le-leb (back file) (length file) (omega (arith, h.room)) in
      let alone : (takes_report kind || leb (length file) (back file)) ≡ true = rw b h.alone in
      record { tests = rw (long-enough, kind-right, class-right, sections-right, back-right, room, alone); named = class_is; size = size_is }

-- what a trailer does to the file that ends with an area
pub written_passes : (kind : Kind) (class : Class) (before area after : List ℕ) → 8 ≤ length area
    → after ≡ written (length area - 8) (trailer_of kind class) area → Holds kind class (before ++ after) → Passes kind class (before ++ after)
written_passes kind class before area after h e =
    let t = length_trailer kind class in
    trailer_passes kind class (before ++ take (length area - 8) area) (before ++ after)
    (ap (λ a. before ++ a) (e ∙ written_end (length area - 8) (trailer_of kind class) area (omega arith))
    ∙ sym (append_assoc before (take (length area - 8) area) (trailer_of kind class)))
