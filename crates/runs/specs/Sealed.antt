-- What holds of every session: its runs are lawful, and no list of calls shows which key it holds. Assumes nothing.
use Rattle.std.specs.Prelude.{◌≡◌, ℕ, List, map, length}
use Rattle.std.specs.List.{AllZip, AllByRecursion}
use Rattle.ring.specs.Classes.{size_of}
use Rattle.ring.specs.declared.class.Class.{Class}
use Rattle.scheme.specs.Keys.{Basis, IsKey, form_of}
use Rattle.scheme.specs.Sessions.{opened, Call}
use Rattle.scheme.specs.Steps.{run}
use Rattle.algebra.specs.Counting.{FormBelongs}
use Rattle.algebra.specs.Isometries.{Joined}
use Rattle.runs.specs.Issued.{Given, Lawful}
use Rattle.runs.specs.Paired.{paired, Alike}

abbrev pub SessionsAreLawful : Type 0
SessionsAreLawful =
    (class : Class) (b : Basis) → IsKey (size_of class) b → (log : List ℕ) (calls : List Call) → AllByRecursion Given calls
    → Lawful class b (opened class log) (run class b (opened class log) calls)

-- Two sessions opened on two keys with one form, and on logs of one length. U joins the first basis to the
-- second: it only moves numbers and flips signs (`joined`).
pub record Hidden (class : Class) (b b' : Basis) (log log' : List ℕ) : Type 0 where
  pub joined : Joined (size_of class) b b'
  -- U·x fits 16 bits as x does
  pub fits : (calls : List Call) → AllByRecursion Given calls → AllByRecursion Given (map (paired (size_of class) joined.by) calls)
  -- after each call both show the same
  pub alike : (calls : List Call)
      → AllZip (Alike (size_of class) joined.by) (run class b (opened class log) calls) (run class b' (opened class log') (map (paired (size_of class) joined.by) calls))

abbrev pub KeysStayHidden : Type 0
KeysStayHidden =
    (class : Class) (b b' : Basis) → IsKey (size_of class) b → IsKey (size_of class) b' → form_of b ≡ form_of b'
    → (log log' : List ℕ) → length log ≡ length log' → Hidden class b b' log log'

-- a session opened on the key b with this log
pub record Sealed (class : Class) (b : Basis) (log : List ℕ) : Type 0 where
  -- every issued signature is accepted; no hash is signed twice, no sample used for two hashes
  pub lawful : (calls : List Call) → AllByRecursion Given calls → Lawful class b (opened class log) (run class b (opened class log) calls)
  -- no list of calls shows which key with this form it holds
  pub hidden : (b' : Basis) → IsKey (size_of class) b' → form_of b ≡ form_of b' → (log' : List ℕ) → length log ≡ length log' → Hidden class b b' log log'
  -- the form belongs to exactly 4n keys
  pub belongs : FormBelongs (size_of class) b

abbrev pub SessionsAreSealed : Type 0
SessionsAreSealed = (class : Class) (b : Basis) → IsKey (size_of class) b → (log : List ℕ) → Sealed class b log
