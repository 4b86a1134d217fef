-- The bytes of a message, and what writing leaves in the lent room. Assumes nothing.
use Rattle.std.specs.Prelude.{◌≡◌, Bool, cond, ◌&&◌, List, ◌++◌, ℕ, ◌+◌, ltb, eqb, length, drop}
use Rattle.bits.specs.Search.{least}
use Rattle.codec.specs.Bytes.{little_endian}
use Rattle.rules.specs.Codes.{most_in_set}
use Rattle.answers.specs.declared.Answer.{Answer}
use Rattle.answers.specs.declared.Answer.TheVariants.{BadField, TooMany, NoRoom}
use Rattle.answers.specs.Answers.{nowhere}
use Rattle.wire.specs.declared.Message.{Message}
use Rattle.std.specs.declared.result.Result.{Result}
use Rattle.std.specs.declared.result.Result.TheVariants.{Ok, Err}
use Rattle.wire.specs.Kinds.{request_kind, kind_of, body_of, in_range, plain, requesting}
use Rattle.wire.specs.Reads.{bad_in}

-- a message in bytes: its length, which counts what follows it, its kind, its body
abbrev pub message_bytes : Message → List ℕ
message_bytes m =
    let body = body_of m.what m.count m.set in
    little_endian 2 (2 + length body) ++ (little_endian 2 (kind_of m.what) ++ body)

-- what a call that writes says: how many bytes it wrote, or why it wrote none
abbrev pub Written : Type 0
Written = Result ℕ Answer

-- what it says, and what it leaves in the room
pub record Writing : Type 0 where
  pub says : Written
  pub leaves : List ℕ

-- what a call says is said, and what it leaves is left
abbrev pub LeavesMessage : Writing → Written → List ℕ → Type 0
LeavesMessage w r room = (r ≡ w.says) × (room ≡ w.leaves)

-- refused: nothing is written
abbrev pub nothing_written : Answer → List ℕ → Writing
nothing_written a room = record { says = Err a; leaves = room }

-- 17 exactly if the room is shorter than the bytes; else the bytes, and past them what was there
abbrev pub put : List ℕ → List ℕ → Writing
put bytes room =
    cond (ltb (length room) (length bytes)) (nothing_written NoRoom room)
    (record { says = Ok (length bytes); leaves = bytes ++ drop (length bytes) room })

-- whether a message is a request
abbrev pub is_request : Message → Bool
is_request m = eqb (kind_of m.what) request_kind

-- writing a message: 5, 4 at a request's least bad instruction, 4, 17
unfoldable pub writing_message : Message → List ℕ → Writing
writing_message m room =
    let bad = least m.count (bad_in m.set) in
    cond (is_request m && ltb most_in_set m.count) (nothing_written TooMany room)
    (cond (is_request m && ltb bad m.count) (nothing_written (BadField bad) room)
    (cond (in_range m.what) (put (message_bytes m) room) (nothing_written (BadField nowhere) room)))

-- the one form of a message: what it doesn't use is zero. The bytes of a message are those of its one form.
unfoldable pub one_form : Message → Message
one_form m = cond (is_request m) (requesting m.count m.set) (plain m.what)
