-- A log with an entry written behind its first ones has one entry more, and the rest behind it.
use Rattle.std.proofs.Common.{◌≡◌, ℕ, zero, suc, ◌+◌, ◌*◌, ◌≤◌, List, [], ◌∷◌, ◌++◌, length, take, drop, sym, refl, ap, ◌∙◌, suc-mul, add-mul, one-mul, arith, length-append}
use Rattle.std.proofs.lemmas.List.{append_assoc, drop-take, take-take, take_at, drop_at, drop-drop, length-take-le}
use Rattle.ring.specs.Classes.{hash_length_of}
use Rattle.ring.specs.declared.class.Class.{Class}
use Rattle.ring.specs.declared.class.Class.TheVariants.{One, Two, Three, Four}
use Rattle.scheme.specs.Sessions.{capacity_of}
use Rattle.slip.specs.Writes.{written}
use Rattle.session.specs.Logs.{chunk, chunks}
use Rattle.session.proofs.Entries.{chunks_more}

-- an entry depends on the bytes up to its end
chunk_front : (size k place : ℕ) (one two : List ℕ) → take place one ≡ take place two → k * size + size ≤ place → chunk size k one ≡ chunk size k two
chunk_front size k place one two e h =
    let cut : (bytes : List ℕ) → chunk size k bytes ≡ drop (k * size) (take (k * size + size) (take place bytes)) =
    λ bytes. sym (drop-take (k * size) size bytes) ∙ ap (drop (k * size)) (sym (take-take (k * size + size) place bytes h)) in
    cut one ∙ ap (λ bytes. drop (k * size) (take (k * size + size) bytes)) e ∙ sym (cut two)

pub chunks_front : (size count place : ℕ) (one two : List ℕ) → take place one ≡ take place two → count * size ≤ place → chunks size count one ≡ chunks size count two
unfolding chunks
chunks_front size zero place one two e h = refl
chunks_front size (suc count) place one two e h =
    let end : count * size + size ≤ place = omega (arith, suc-mul count size) in
    let entry = chunk_front size count place one two e end in
    let entries = chunks_front size count place one two e (omega arith) in
    cc

module _ (size count : ℕ) (entry log : List ℕ) (long : length entry ≡ size) (room : count * size + size ≤ length log) where
  front_length : length (take (count * size) log) ≡ count * size
  front_length = length-take-le (count * size) log (omega arith)

  front_kept : take (count * size) (written (count * size) entry log) ≡ take (count * size) log
  unfolding written
  front_kept = take_at (take (count * size) log) (entry ++ drop (count * size + length entry) log) (count * size) front_length

  entry_there : chunk size count (written (count * size) entry log) ≡ entry
  unfolding written
  entry_there =
      ap (take size) (drop_at (take (count * size) log) (entry ++ drop (count * size + length entry) log) (count * size) front_length)
      ∙ take_at entry (drop (count * size + length entry) log) size long

  pub entries_appended : chunks size (count + 1) (written (count * size) entry log) ≡ chunks size count log ++ (entry ∷ [])
  entries_appended =
      let more = chunks_more size count (written (count * size) entry log) in
      let first = chunks_front size count (count * size) (written (count * size) entry log) log front_kept (omega arith) in
      let last = entry_there in
      cc

  pub spare_appended : drop ((count + 1) * size) (written (count * size) entry log) ≡ drop size (drop (count * size) log)
  unfolding written
  spare_appended =
      let end : (count + 1) * size ≡ count * size + size = omega (arith, add-mul count 1 size, one-mul size) in
      let whole : length (take (count * size) log ++ entry) ≡ count * size + size =
      length-append (take (count * size) log) entry ∙ ap (λ n. n + length entry) front_length ∙ ap (λ n. count * size + n) long in
      let front = take (count * size) log in
      let behind = drop (count * size + length entry) log in
      ap (λ n. drop n (front ++ (entry ++ behind))) end
      ∙ ap (drop (count * size + size)) (sym (append_assoc front entry behind))
      ∙ drop_at (front ++ entry) behind (count * size + size) whole
      ∙ ap (λ n. drop (count * size + n) log) long
      ∙ sym (drop-drop size (count * size) log)

-- a log has room for one entry more while fewer are issued than its capacity
pub room_there : (class : Class) (bytes issued capacity : ℕ) → capacity ≡ capacity_of class bytes → issued + 1 ≤ capacity
    → issued * hash_length_of class + hash_length_of class ≤ bytes
room_there One bytes issued capacity e h = omega arith
room_there Two bytes issued capacity e h = omega arith
room_there Three bytes issued capacity e h = omega arith
room_there Four bytes issued capacity e h = omega arith

-- the state of a log with its next entry written
pub appended_log : (size count at : ℕ) (kept entry log after : List ℕ) → at ≡ size → entry ≡ kept → length kept ≡ size
    → after ≡ written (count * at) entry log → count * size + size ≤ length log
    → (chunks size (count + 1) after ≡ chunks size count log ++ (kept ∷ [])) × (drop ((count + 1) * size) after ≡ drop size (drop (count * size) log))
appended_log size count at kept entry log after a e long is room =
    let whole : after ≡ written (count * size) kept log = is ∙ ap (λ n. written (count * n) entry log) a ∙ ap (λ xs. written (count * size) xs log) e in (
      ap (chunks size (count + 1)) whole ∙ entries_appended size count kept log long room,
      ap (drop ((count + 1) * size)) whole ∙ spare_appended size count kept log long room,
    )
