-- What the bytes of a desk's message say: the station's kinds by the station's own definitions, the others by their shapes. The refusals
-- and their order are document 01's. Assumes nothing.
use Rattle.std.specs.Prelude.{cond, List, [], ◌∷◌, ℕ, ◌+◌, ltb, eqb, length, take, drop}
use Rattle.answers.specs.declared.Answer.{Answer}
use Rattle.answers.specs.declared.Answer.TheVariants.{Taken, TooFewBytes, BadLength, BadField}
use Rattle.answers.specs.Answers.{nowhere}
use Rattle.wire.specs.declared.What.TheVariants.{Ask}
use Rattle.wire.specs.declared.Message.{Message}
use Rattle.wire.specs.Reads.{Received}
use Rattle.wire.specs.declared.Frame.{Frame}
use Rattle.wire.specs.declared.Frame.TheVariants.{Cut, Wrong, Whole}
use Rattle.wire.specs.Kinds.{SizedKind, kinds_asked, kinds_known, plain}
use Rattle.wire.specs.Reads.{length_at, kind_at, read_whole}
use Rattle.desk_wire.specs.Shapes.{Shape, shaped_size, fields_in, entries_in}
use Rattle.desk_wire.specs.DeskKinds.{shapes_asked, shapes_known}

-- a message: one of the station's, or a kind with its fields and entries
pub data DeskMessage : Type 0 where
  of_station : Message → DeskMessage
  shaped : ℕ → List ℕ → List (List ℕ) → DeskMessage

-- what a reader answers: how many bytes the message took, none where they can't be told, and what it says, a blank one if refused
pub record DeskReceived : Type 0 where
  pub answer : Answer
  pub used : ℕ
  pub message : DeskMessage

abbrev pub desk_message_refused : Answer → ℕ → DeskReceived
desk_message_refused a n = record { answer = a; used = n; message = of_station (plain Ask) }

abbrev pub desk_message_taken : DeskMessage → ℕ → DeskReceived
desk_message_taken m n = record { answer = Taken; used = n; message = m }

-- how far the first message goes, by its length alone: the station's frame with another greatest length
abbrev pub frame_up_to : ℕ → List ℕ → Frame
frame_up_to most s =
    cond (ltb (length s) 2) Cut
    (cond (ltb (length_at s) 2) Wrong
    (cond (ltb most (length_at s)) Wrong
    (cond (ltb (length s) (length_at s + 2)) Cut (Whole (length_at s + 2)))))

-- the greatest length that a message to a desk gives itself: an image with 31 cards
abbrev pub most_length : ℕ
most_length = 143

-- and of an answer: 62 lines
abbrev pub most_answered : ℕ
most_answered = 499

-- what the station's reader says, as a desk's
abbrev pub as_received : Received → DeskReceived
as_received r = record { answer = r.answer; used = r.used; message = of_station r.message }

-- a message of this shape: 2 where it is longer or shorter than its entries make it, 4 where something is out of its range
unfoldable pub read_shape : Shape → List ℕ → DeskReceived
read_shape k m =
    let body = drop 4 m in
    cond (eqb (length body) (shaped_size k body))
    (cond (k.ranged (fields_in k body) (entries_in k body))
    (desk_message_taken (shaped k.number (fields_in k body) (entries_in k body)) (length m))
    (desk_message_refused (BadField nowhere) (length m)))
    (desk_message_refused BadLength (length m))

-- a message whose bytes are exactly m: of one of these shapes, or one of the station's
abbrev pub read_shaped : List SizedKind → List Shape → List ℕ → DeskReceived
read_shaped ks [] m = as_received (read_whole ks m)
read_shaped ks (k ∷ shapes) m = cond (eqb (kind_at m) k.number) (read_shape k m) (read_shaped ks shapes m)

-- the first message of s; what stands after it is not looked at
abbrev pub read_shaped_in : List SizedKind → List Shape → Frame → List ℕ → DeskReceived
read_shaped_in ks shapes Cut s = desk_message_refused TooFewBytes 0
read_shaped_in ks shapes Wrong s = desk_message_refused BadLength 0
read_shaped_in ks shapes (Whole n) s = read_shaped ks shapes (take n s)

-- a reader of messages up to this length
abbrev pub read_up_to : ℕ → List SizedKind → List Shape → List ℕ → DeskReceived
read_up_to most ks shapes s = read_shaped_in ks shapes (frame_up_to most s) s

-- the library's reader
unfoldable pub read_desk : List ℕ → DeskReceived
read_desk s = read_up_to most_answered kinds_known shapes_known s

-- the desk's reader
unfoldable pub read_desk_asked : List ℕ → DeskReceived
read_desk_asked s = read_up_to most_length kinds_asked shapes_asked s
