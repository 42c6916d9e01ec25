-- Areas with bytes written into them.
use Rattle.std.proofs.Common.{◌≡◌, ℕ, ◌+◌, ◌≤◌, List, [], ◌++◌, length, take, drop, sym, refl, ap, ◌∙◌, add-zero, arith, length-append, length-drop, length-take}
use lib.Seq.{paste}
use Rattle.std.proofs.lemmas.List.{take-append-drop, drop_all, append-nil}
use Rattle.std.proofs.lemmas.List.Edits.{paste_all, paste-paste}
use Rattle.slip.specs.Writes.{written}

-- nothing written
pub written_none : {X : Type 0} (place : ℕ) (area : List X) → written place [] area ≡ area
unfolding written
written_none place area = rw add-zero (take-append-drop place area)

written_paste : {X : Type 0} (place n : ℕ) (bytes area : List X) → n ≡ length bytes → paste area place bytes n ≡ written place bytes area
unfolding written
written_paste place n bytes area e = paste_all area place bytes n e ∙ ap (λ k. take place area ++ (bytes ++ drop (place + k) area)) e

-- two writes, the second right behind the first
pub written_more : {X : Type 0} (place at : ℕ) (one two area : List X) → at ≡ place + length one → place ≤ length area
    → written at two (written place one area) ≡ written place (one ++ two) area
written_more place at one two area e h =
    ap (λ k. written k two (written place one area)) e
    ∙ ap (written (place + length one) two) (sym (written_paste place (length one) one area refl))
    ∙ sym (written_paste (place + length one) (length two) two (paste area place one (length one)) refl)
    ∙ paste-paste area place one two (length one) (length two) refl refl h
    ∙ written_paste place (length one + length two) (one ++ two) area (sym (length-append one two))

pub length_written : {X : Type 0} (place : ℕ) (bytes area : List X) → place + length bytes ≤ length area → length (written place bytes area) ≡ length area
unfolding written
length_written place bytes area h = simp (length-append, length-take, length-drop) (omega arith)

-- an area that is written from its start to its end
pub written_whole : {X : Type 0} (one two area : List X) → length one + length two ≡ length area
    → written 0 (one ++ two) area ≡ one ++ two
unfolding written
written_whole one two area e =
    let h : length area ≤ 0 + length (one ++ two) = simp length-append (omega arith) in
    rw (drop_all, append-nil)

-- bytes written at an area's end
pub written_end : {X : Type 0} (place : ℕ) (bytes area : List X) → place + length bytes ≡ length area → written place bytes area ≡ take place area ++ bytes
unfolding written
written_end place bytes area e =
    let h : length area ≤ place + length bytes = omega arith in
    rw (drop_all, append-nil)
