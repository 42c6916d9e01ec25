-- Numbers that are written or read one after the other, of any kind whose laws hold.
use Rattle.std.proofs.Common.{◌≡◌, ℕ, zero, suc, ◌+◌, ◌-◌, ◌*◌, ◌/◌, ◌%◌, ◌<◌, ◌≤◌, List, [], ◌∷◌, ◌++◌, length, get_or, take, drop, sym, ap, ◌∙◌, arith, mul-zero, length-append}
use Rattle.std.proofs.Math.Nat.{mul-div_cancel_left, mul-mod_right, div-lt_iff_lt-mul}
use Rattle.std.proofs.Math.Seq.{take-add}
use Rattle.std.proofs.lemmas.List.{take_more, drop-drop, length-take-le, nil_from_length}
use Rattle.std.specs.Simd.{first_chunks}
use Rattle.slip.specs.Writes.{written}
use Rattle.slip.proofs.Areas.{written_more}

module _ {X : Type 0} (width : ℕ) (bytes : List X → List ℕ) (numbers : List ℕ → List X)
    (bytes_length : (xs : List X) → length (bytes xs) ≡ width * length xs)
    (bytes_append : (xs ys : List X) → bytes (xs ++ ys) ≡ bytes xs ++ bytes ys)
    (numbers_append : (n : ℕ) (xs ys : List ℕ) → length xs ≡ width * n → numbers (xs ++ ys) ≡ numbers xs ++ numbers ys) where
  pub bytes_none : bytes [] ≡ []
  bytes_none = nil_from_length (bytes []) (omega (arith, bytes_length []))

  pub numbers_none : numbers [] ≡ []
  numbers_none = nil_from_length (numbers []) (omega (arith, ap length (numbers_append 0 [] [] (omega arith)), length-append (numbers []) (numbers [])))

  front : (xs : List X) (i : ℕ) → i ≤ length xs → length (bytes (take i xs)) ≡ width * i
  front xs i h = bytes_length (take i xs) ∙ ap (λ n. width * n) (length-take-le i xs h)

  bytes_more : (xs : List X) (i : ℕ) (x : X) → i < length xs → x ≡ get_or xs i x → bytes (take (i + 1) xs) ≡ bytes (take i xs) ++ bytes (x ∷ [])
  bytes_more xs i x h e =
      ap bytes (take_more xs i x h ∙ ap (λ y. take i xs ++ (y ∷ [])) (sym e)) ∙ bytes_append (take i xs) (x ∷ [])

  -- one more number is written
  pub put_more : (place i : ℕ) (xs : List X) (x : X) (area now after word : List ℕ)
      → i < length xs → x ≡ get_or xs i x → place ≤ length area
      → now ≡ written place (bytes (take i xs)) area → word ≡ bytes (x ∷ []) → after ≡ written (place + width * i) word now
      → after ≡ written place (bytes (take (i + 1) xs)) area
  put_more place i xs x area now after word h e le was w a =
      let l = front xs i (omega arith) in
      let m = written_more place (place + width * i) (bytes (take i xs)) word area (ap (λ n. place + n) (sym l)) le in
      let b = bytes_more xs i x h e in
      cc

  -- and reads back
  pub back_more : (i : ℕ) (xs : List X) (x : X) (word : List ℕ) → i < length xs → x ≡ get_or xs i x
      → numbers (bytes (take i xs)) ≡ take i xs → word ≡ bytes (x ∷ []) → numbers word ≡ x ∷ []
      → numbers (bytes (take (i + 1) xs)) ≡ take (i + 1) xs
  back_more i xs x word h e was w r =
      let b = bytes_more xs i x h e in
      let n = numbers_append i (bytes (take i xs)) (bytes (x ∷ [])) (front xs i (omega arith)) in
      let t = take_more xs i x h in
      cc

  -- one more number is read
  pub get_more : (i : ℕ) (file word : List ℕ) (x : X) → width * i ≤ length file → word ≡ take width (drop (width * i) file)
      → numbers word ≡ x ∷ [] → numbers (take (width * (i + 1)) file) ≡ numbers (take (width * i) file) ++ (x ∷ [])
  get_more i file word x h w r =
      let t : take (width * (i + 1)) file ≡ take (width * i) file ++ take width (drop (width * i) file) =
      ap (λ n. take n file) (omega arith) ∙ take-add (width * i) width file in
      let n = numbers_append i (take (width * i) file) word (length-take-le (width * i) file h) in
      cc

chunk_at : {X : Type 0} (width count i : ℕ) (xs d : List X) → i < count → get_or (first_chunks width count xs) i d ≡ take width (drop (width * i) xs)
chunk_at width zero i xs d h = absurd (omega arith)
chunk_at width (suc n) zero xs d h = ap (λ k. take width (drop k xs)) (sym (mul-zero width))
chunk_at width (suc n) (suc i) xs d h =
    chunk_at width n i (drop width xs) d (omega arith)
    ∙ ap (take width) (drop-drop (width * i) width xs)
    ∙ ap (λ k. take width (drop k xs)) (omega arith)

-- one of a file's words
pub word_at : (width i : ℕ) (file word : List ℕ) (words : List (List ℕ)) → words ≡ first_chunks width (length file / width) file
    → i < length file / width → word ≡ get_or words i word → word ≡ take width (drop (width * i) file)
word_at width i file word words e h w =
    w ∙ ap (λ l. get_or l i word) e ∙ chunk_at width (length file / width) i file word h

-- how many words the bytes of n numbers have
pub word_count : (width count size n : ℕ) → 0 < width → count ≡ size / width → size ≡ width * n → count ≡ n
word_count width count size n h e f = e ∙ ap (λ k. k / width) f ∙ mul-div_cancel_left n h

-- bytes that are whole words, and bytes that are not
pub whole_words : (width size n : ℕ) → size % width ≡ 0 → size / width ≡ n → width * n ≡ size
whole_words width size n e f = ap (λ k. width * k) (sym f) ∙ omega (arith, e)

pub no_words : (width size n : ℕ) → 0 < width → (size % width ≡ 0 → size / width ≡ n → ⊥) → width * n ≡ size → ⊥
no_words width size n h differ e =
    differ (ap (λ k. k % width) (sym e) ∙ mul-mod_right width n) (ap (λ k. k / width) (sym e) ∙ mul-div_cancel_left n h)

-- room for fewer numbers than n
pub no_room : (width place size n : ℕ) → 0 < width → (size - place) / width < n → size < place + width * n
no_room width place size n h e = let m : size - place < n * width = (div-lt_iff_lt-mul h).0 e in omega arith
