-- Examples of class 1, worked out by hand: the resting key f = g = G = 1, F = 0. Assumes nothing.
use Rattle.std.specs.Prelude.{◌≡◌, ℕ, true, false, List, [], ◌∷◌, ◌++◌, map, replicate, ℤ, pos, negsuc, Some, None}
use Rattle.ring.specs.Elements.{constant}
use Rattle.ring.specs.Faults.{fault, first_failing}
use Rattle.ring.specs.declared.class.Class.TheVariants.{One}
use Rattle.ring.specs.declared.fault.Layer.TheVariants.{Key, Session, Check}
use Rattle.scheme.specs.Keys.{Basis, basis, gram, form_of}
use Rattle.scheme.specs.Sessions.{opened, Call, announce, target, sign, Answer, refused, ordered, signed}
use Rattle.scheme.specs.Steps.{run}
use Rattle.scheme.specs.Verdicts.{verify_tests, length_under, point_of}
use Rattle.key.specs.Loading.{sound_tests}
use Rattle.key.specs.Resting.{resting_basis}

-- the element c, and the 2n numbers of the pair (c, d)
abbrev pub element : ℤ → List ℤ
element c = constant 4 c

abbrev pub numbers : ℤ → ℤ → List ℤ
numbers c d = element c ++ element d

-- f = X, g = −X³, F = 0, G = −X³
abbrev pub turned_basis : Basis
turned_basis = basis (pos 0 ∷ pos 1 ∷ pos 0 ∷ pos 0 ∷ []) (pos 0 ∷ pos 0 ∷ pos 0 ∷ negsuc 0 ∷ []) (element (pos 0)) (pos 0 ∷ pos 0 ∷ pos 0 ∷ negsuc 0 ∷ [])

-- X and −2·X³
abbrev pub turned_sample : List ℤ
turned_sample = pos 0 ∷ pos 1 ∷ pos 0 ∷ pos 0 ∷ pos 0 ∷ pos 0 ∷ pos 0 ∷ negsuc 1 ∷ []

-- a new session where a hash was announced: what a call of order 1 answers, and its areas
abbrev pub answers_to : Basis → ℕ → Call → List Answer
answers_to b hash call = map (λ e. e.step.answer) (run One b (opened One (0 ∷ [])) (announce (hash ∷ []) ∷ call ∷ []))

abbrev pub signatures_of : Basis → ℕ → Call → List (List ℤ)
signatures_of b hash call = map (λ e. e.step.signature_area) (run One b (opened One (0 ∷ [])) (announce (hash ∷ []) ∷ call ∷ []))

abbrev pub targets_of : Basis → ℕ → Call → List (List ℕ)
targets_of b hash call = map (λ e. e.step.target_area) (run One b (opened One (0 ∷ [])) (announce (hash ∷ []) ∷ call ∷ []))

abbrev pub signing : List ℤ → Call
signing sample = sign 1 sample (replicate 8 (pos 7)) 16

-- the sample is turned down with this number, and the area stays
pub record TurnedDown (hash : ℕ) (sample : List ℤ) (number : ℕ) : Type 0 where
  pub answer : answers_to resting_basis hash (signing sample) ≡ ordered 1 ∷ refused (fault number Session 0) ∷ []
  pub area : signatures_of resting_basis hash (signing sample) ≡ [] ∷ replicate 8 (pos 7) ∷ []

pub record WorkedExamples : Type 0 where
  pub form : form_of resting_basis ≡ gram (element (pos 2)) (element (pos 1)) (element (pos 1))
  -- hash 11 hexadecimal has the target (1, 0)
  pub target_11 : targets_of resting_basis 17 (target 1 (replicate 8 7) 16) ≡ [] ∷ (1 ∷ 0 ∷ 0 ∷ 0 ∷ 0 ∷ 0 ∷ 0 ∷ 0 ∷ []) ∷ []
  -- its samples (1, 0) and (1, 2)
  pub changed : answers_to resting_basis 17 (signing (numbers (pos 1) (pos 0))) ≡ ordered 1 ∷ signed 1 true ∷ []
  pub changed_signature : signatures_of resting_basis 17 (signing (numbers (pos 1) (pos 0))) ≡ [] ∷ numbers (pos 1) (pos 0) ∷ []
  pub kept : answers_to resting_basis 17 (signing (numbers (pos 1) (pos 2))) ≡ ordered 1 ∷ signed 5 false ∷ []
  pub kept_signature : signatures_of resting_basis 17 (signing (numbers (pos 1) (pos 2))) ≡ [] ∷ numbers (pos 0) (pos 0) ∷ []
  -- not the target's coset; squared length 17
  pub other_coset : TurnedDown 17 (numbers (pos 1) (pos 1)) 7
  pub too_long : TurnedDown 17 (numbers (pos 1) (pos 4)) 8
  -- hash 00, squared length 16
  pub longest : answers_to resting_basis 0 (signing (numbers (pos 0) (pos 4))) ≡ ordered 1 ∷ signed 16 false ∷ []
  pub longest_signature : signatures_of resting_basis 0 (signing (numbers (pos 0) (pos 4))) ≡ [] ∷ numbers (pos 0) (negsuc 1) ∷ []
  -- hash 01, where v1 is 0
  pub no_sign : TurnedDown 1 (numbers (pos 1) (pos 1)) 9
  -- verifying s = (1, 0) for hash 11 gives 1; its mirror (0, 1) is refused
  pub accepted : first_failing (verify_tests One (form_of resting_basis) (17 ∷ []) (numbers (pos 1) (pos 0)) 16) ≡ None
  pub accepted_length : length_under (form_of resting_basis) (point_of 4 (17 ∷ []) (numbers (pos 1) (pos 0))) ≡ pos 1
  pub mirrored : first_failing (verify_tests One (form_of resting_basis) (17 ∷ []) (numbers (pos 0) (pos 1)) 16) ≡ Some (fault 9 Check 0)
  -- a turned key has the same form, and the turned sample gives the same signature
  pub same_form : form_of turned_basis ≡ form_of resting_basis
  pub turned : answers_to turned_basis 17 (signing turned_sample) ≡ ordered 1 ∷ signed 5 false ∷ []
  pub turned_signature : signatures_of turned_basis 17 (signing turned_sample) ≡ [] ∷ numbers (pos 0) (pos 0) ∷ []
  -- f = g = F = G = 1; f = 1 + X
  pub no_determinant : first_failing (sound_tests 4 (basis (element (pos 1)) (element (pos 1)) (element (pos 1)) (element (pos 1)))) ≡ Some (fault 5 Key 0)
  pub even_sum : first_failing (sound_tests 4 (basis (pos 1 ∷ pos 1 ∷ pos 0 ∷ pos 0 ∷ []) (element (pos 1)) (element (pos 0)) (element (pos 1)))) ≡ Some (fault 4 Key 0)
  -- the form −1, 0, −1 with hash 10 hexadecimal and s = 0
  pub negative_length : length_under (gram (element (negsuc 0)) (element (pos 0)) (element (negsuc 0))) (point_of 4 (16 ∷ []) (numbers (pos 0) (pos 0))) ≡ negsuc 0
  pub negative_refused : first_failing (verify_tests One (gram (element (negsuc 0)) (element (pos 0)) (element (negsuc 0))) (16 ∷ []) (numbers (pos 0) (pos 0)) 16) ≡ Some (fault 8 Check 0)
