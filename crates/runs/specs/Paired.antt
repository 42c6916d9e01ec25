-- Two sessions that get the same calls, on two keys with one form. Assumes nothing.
use Rattle.std.specs.Prelude.{◌≡◌, ℕ, ◌*◌, cond, List, map, length, ℤ, pos, ◌==◌, ◌≢◌}
use Rattle.scheme.specs.Matrices.{Matrix, applied}
use Rattle.scheme.specs.Pairs.{pair_from, numbers_of, parities}
use Rattle.scheme.specs.Sessions.{Call, announce, target, sign, withdraw, count, aimed, Event}

-- U·x for a sample x of 2n numbers; a sample of another length stays as it is
unfoldable pub moved : ℕ → Matrix → List ℤ → List ℤ
moved n u sample = cond (length sample == 2 * n) (numbers_of (applied u (pair_from n sample))) sample

-- the same call, with U·x for its sample x
abbrev pub paired : ℕ → Matrix → Call → Call
paired n u (announce hash) = announce hash
paired n u (target order area words) = target order area words
paired n u (sign order sample area words) = sign order (moved n u sample) area words
paired n u (withdraw order) = withdraw order
paired n u count = count

-- U times a target, modulo 2
unfoldable pub moved_target : ℕ → Matrix → List ℕ → List ℕ
moved_target n u t = parities (applied u (pair_from n (map pos t)))

-- one event of each session: the same answer or whole fault, signature area and log entries. A written target
-- of the second is U times the first's, modulo 2; else the target areas are the same.
pub record Alike (n : ℕ) (u : Matrix) (first second : Event) : Type 0 where
  pub answer : first.step.answer ≡ second.step.answer
  pub signature : first.step.signature_area ≡ second.step.signature_area
  pub entries : first.step.after.entries ≡ second.step.after.entries
  pub target_written : first.step.answer ≡ aimed → second.step.target_area ≡ moved_target n u first.step.target_area
  pub target_left : (first.step.answer ≢ aimed) → first.step.target_area ≡ second.step.target_area
