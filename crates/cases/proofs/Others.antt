-- A verb of the ring is none of the others.
use Rattle.std.proofs.Common.{◌≡◌, List, ℕ, codes}
use Rattle.script.proofs.Texts.{differ}
use Rattle.cases.specs.Rings.{ring_outcome}
use Rattle.cases.specs.Outcomes.{outcome_of}

-- another text
abbrev Other : List ℕ → List ℕ → Type 0
Other verb name = verb ≡ name → ⊥

module _ (verb fields : List ℕ) where
  pub ring_verb : Other verb (codes "read") → Other verb (codes "read-sig") → Other verb (codes "write-sig") → Other verb (codes "load-key") → Other verb (codes "load-form")
      → Other verb (codes "make-form") → Other verb (codes "write-key") → Other verb (codes "write-form") → Other verb (codes "verify") → Other verb (codes "measure")
      → outcome_of verb fields ≡ ring_outcome verb fields
  ring_verb a b c d e f g h i j =
      rw (
        differ verb (codes "read") a,
        differ verb (codes "read-sig") b,
        differ verb (codes "write-sig") c,
        differ verb (codes "load-key") d,
        differ verb (codes "load-form") e,
        differ verb (codes "make-form") f,
        differ verb (codes "write-key") g,
        differ verb (codes "write-form") h,
        differ verb (codes "verify") i,
        differ verb (codes "measure") j,
      )
