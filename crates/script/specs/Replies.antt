-- The text of each reply, as bytes, with no newline. Assumes nothing.
use Rattle.std.specs.Prelude.{ℕ, Bool, cond, List, ◌++◌, map, vec_items, codes, decimal, ◌==◌}
use Rattle.ring.specs.Classes.{code_of, size_of}
use Rattle.ring.specs.declared.class.Class.{Class}
use Rattle.ring.specs.declared.fault.Fault.{Fault}
use Rattle.answers.specs.Lines.{layer_name}
use Rattle.script.specs.Hexadecimal.{hex_text}
use Rattle.script.specs.declared.reply.Reply.{Reply}
use Rattle.script.specs.declared.reply.Reply.TheVariants as reply

pub data Answer : Type 0 where
  Done : Answer
  Loaded : Class → Answer
  Bytes : List ℕ → Answer
  Number : ℕ → Answer
  Target : List ℕ → Answer
  -- length, whether the signature is as it was, and the signature
  Signed : ℕ → Bool → List ℕ → Answer
  -- issued, capacity, and whether an order is standing
  Counted : ℕ → ℕ → Bool → Answer
  Refused : Fault → Answer
  BadLine : Answer
  NoOrder : Answer
  NoSession : Answer
  SessionOpen : Answer
  NoMemory : Answer

-- one character for each byte: 0 for 0, and 1 for any other
abbrev pub bit_char : ℕ → ℕ
bit_char b = cond (b == 0) 48 49

abbrev pub bit_text : List ℕ → List ℕ
bit_text bytes = map bit_char bytes

abbrev pub kept_word : Bool → List ℕ
kept_word kept = cond kept (codes "kept") (codes "changed")

abbrev pub standing_word : Bool → List ℕ
standing_word standing = cond standing (codes "standing") (codes "idle")

-- ok LENGTH kept HEX
abbrev pub signed_bytes : ℕ → Bool → List ℕ → List ℕ
signed_bytes length kept signature =
    codes "ok " ++ (decimal length ++ (codes " " ++ (kept_word kept ++ (codes " " ++ hex_text signature))))

-- ok ISSUED CAPACITY idle
abbrev pub counted_bytes : ℕ → ℕ → Bool → List ℕ
counted_bytes issued capacity standing =
    codes "ok " ++ (decimal issued ++ (codes " " ++ (decimal capacity ++ (codes " " ++ standing_word standing))))

-- refused NUMBER LAYER PLACE
abbrev pub refused_bytes : Fault → List ℕ
refused_bytes e =
    codes "refused " ++ (decimal e.number ++ (codes " " ++ (layer_name e.layer ++ (codes " " ++ decimal e.place))))

abbrev pub reply_bytes : Answer → List ℕ
reply_bytes Done = codes "ok"
reply_bytes (Loaded class) = codes "ok " ++ (decimal (code_of class) ++ (codes " " ++ decimal (size_of class)))
reply_bytes (Bytes bytes) = codes "ok " ++ hex_text bytes
reply_bytes (Number n) = codes "ok " ++ decimal n
reply_bytes (Target bits) = codes "ok " ++ bit_text bits
reply_bytes (Signed length kept signature) = signed_bytes length kept signature
reply_bytes (Counted issued capacity standing) = counted_bytes issued capacity standing
reply_bytes (Refused e) = refused_bytes e
reply_bytes BadLine = codes "bad line"
reply_bytes NoOrder = codes "no order"
reply_bytes NoSession = codes "no session"
reply_bytes SessionOpen = codes "session open"
reply_bytes NoMemory = codes "no memory"

-- what a reply of the code stands for
abbrev pub answer_of : Reply → Answer
answer_of reply.Done = Done
answer_of (reply.Loaded class) = Loaded class
answer_of (reply.Bytes bytes) = Bytes (vec_items bytes)
answer_of (reply.Number n) = Number n
answer_of (reply.Target bits) = Target (vec_items bits)
answer_of (reply.Signed length kept signature) = Signed length kept (vec_items signature)
answer_of (reply.Counted issued capacity standing) = Counted issued capacity standing
answer_of (reply.Refused e) = Refused e
answer_of reply.BadLine = BadLine
answer_of reply.NoOrder = NoOrder
answer_of reply.NoSession = NoSession
answer_of reply.SessionOpen = SessionOpen
answer_of reply.NoMemory = NoMemory
