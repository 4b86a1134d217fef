-- A run of messages on a desk: the whole ones at the front of some bytes, answered one after another as long as there is room for their
-- answers, and what the station inside is sent by them. Assumes nothing.
use Rattle.std.specs.Prelude.{◌≡◌, Bool, true, false, cond, ◌&&◌, ◌||◌, List, [], ◌++◌, ℕ, zero, suc, ◌+◌, ◌-◌, ltb, leb, eqb, length, get_or, take, drop}
use Rattle.codec.specs.Bytes.{from_little_endian}
use Rattle.answers.specs.declared.Answer.TheVariants.{Taken, BadLength, NoRoom}
use Rattle.wire.specs.declared.What.TheVariants.{Event, Image}
use Rattle.wire.specs.declared.Frame.{Frame}
use Rattle.wire.specs.declared.Frame.TheVariants.{Cut, Wrong, Whole}
use Rattle.wire.specs.Kinds.{plain}
use Rattle.wire.specs.Reads.{kind_at}
use Rattle.wire.specs.Writes.{message_bytes}
use Rattle.desk.specs.declared.Desk.{Desk}
use Rattle.desk_wire.specs.DeskKinds.{begin_kind, cards_kind, told_kind, own_number}
use Rattle.desk_wire.specs.DeskReads.{frame_up_to, most_length}
use Rattle.desk_service.specs.DeskService.{answer_told, respond_desk, brief_bytes, told_bytes}
use Rattle.desk_buffer.specs.declared.DeskServed.{DeskServed}

-- ---- what the station inside is sent

-- the number that an answer tells; where it tells something else, 0
abbrev pub number_in : List ℕ → ℕ
number_in b = cond (eqb (kind_at b) told_kind.number) (get_or b 4 0) 0

-- refused in reading, 1 to 5, or by the desk itself: the station is not sent it
abbrev pub held_back : ℕ → Bool
held_back n = leb 1 n && leb n 5 || own_number n

-- a begin without its card, and an image without its cards; one that is shorter than its kind is refused in reading
abbrev pub begin_form : List ℕ → List ℕ
begin_form m = cond (ltb (length m) 8) [] (message_bytes (plain (Event 1)))

abbrev pub image_form : List ℕ → List ℕ
image_form m =
    cond (ltb (length m) 20) [] (message_bytes (plain (Image (from_little_endian 8 0 (drop 4 m)) (from_little_endian 8 0 (drop 12 m)))))

-- a message as one of the station's: those are as they are; of a question there is none
unfoldable pub station_form : List ℕ → List ℕ
station_form m =
    cond (leb (kind_at m) 5) m
    (cond (eqb (kind_at m) begin_kind.number) (begin_form m) (cond (eqb (kind_at m) cards_kind.number) (image_form m) []))

-- what the station is sent by a message with this answer
abbrev pub passed_on : List ℕ → List ℕ → List ℕ
passed_on b m = cond (held_back (number_in b)) [] (station_form m)

-- ---- a run

-- what messages leave: the desk, how many bytes they took, their answers, what the station was sent, whether more may follow, whether
-- nothing more is to be read, and whether the next answer has no room
pub record DeskRan : Type 0 where
  pub desk : Desk
  pub used : ℕ
  pub bytes : List ℕ
  pub sent : List ℕ
  pub on : Bool
  pub stop : Bool
  pub full : Bool

-- no message is taken, and these are the last bytes
abbrev pub desk_run_ends : Desk → List ℕ → Bool → Bool → DeskRan
desk_run_ends d bytes stop full = record { desk = d; used = 0; bytes = bytes; sent = []; on = false; stop = stop; full = full }

-- nothing is done where these bytes have no room
abbrev pub if_room : ℕ → Desk → List ℕ → DeskRan → DeskRan
if_room room d bytes r = cond (ltb room (length bytes)) (desk_run_ends d [] false true) r

-- a message of these bytes, the desk after it, and its answer
abbrev pub message_ran : List ℕ → Desk → List ℕ → DeskRan
message_ran m d b = record { desk = d; used = length m; bytes = b; sent = passed_on b m; on = true; stop = false; full = false }

-- a message of these bytes on a desk, if its answer has room
abbrev pub answered_ran : ℕ → Desk → List ℕ → DeskRan
answered_ran room d m = let r = respond_desk d m in if_room room d (told_bytes r.told) (message_ran m r.desk (told_bytes r.told))

-- a length out of range: 2, and nothing more is read
abbrev pub wrong_ran : ℕ → Desk → DeskRan
wrong_ran room d = let b = brief_bytes (answer_told BadLength) in if_room room d b (desk_run_ends d b true false)

-- one message; one that is cut short is left
abbrev pub desk_step_at : Frame → ℕ → Desk → List ℕ → DeskRan
desk_step_at Cut room d input = desk_run_ends d [] false false
desk_step_at Wrong room d input = wrong_ran room d
desk_step_at (Whole n) room d input = answered_ran room d (take n input)

unfoldable pub desk_step : ℕ → Desk → List ℕ → DeskRan
desk_step room d input = desk_step_at (frame_up_to most_length input) room d input

-- one after the other
abbrev pub then_ran : DeskRan → DeskRan → DeskRan
then_ran a r =
    record {
      desk = r.desk;
      used = a.used + r.used;
      bytes = a.bytes ++ r.bytes;
      sent = a.sent ++ r.sent;
      on = r.on;
      stop = r.stop;
      full = r.full;
    }

-- at most so many messages, in room of so many bytes
unfoldable pub desk_run_of : ℕ → ℕ → Desk → List ℕ → DeskRan
desk_run_of zero room d input = desk_run_ends d [] false false
desk_run_of (suc k) room d input =
    let a = desk_step room d input in
    cond a.on (then_ran a (desk_run_of k (room - length a.bytes) a.desk (drop a.used input))) a

-- all of them: each takes a byte at least
abbrev pub desk_run : ℕ → Desk → List ℕ → DeskRan
desk_run room d input = desk_run_of (length input) room d input

-- ---- in lent room

-- what a call that serves says, and what it leaves in the room for answers and in that for what is sent
pub record DeskServing : Type 0 where
  pub says : DeskServed
  pub answers : List ℕ
  pub sent : List ℕ

-- what a call says is said, and what it leaves in each is left
abbrev pub DeskServes : DeskServing → DeskServed → List ℕ → List ℕ → Type 0
DeskServes w r out sent = (r ≡ w.says) × (out ≡ w.answers) × (sent ≡ w.sent)

-- a run as said, its answers and what was sent at the start of their rooms, and past them what was there
abbrev pub served_desk : DeskRan → List ℕ → List ℕ → DeskServing
served_desk r out sent =
    record {
      says =
          record {
            answer = Taken;
            desk = r.desk;
            used = r.used;
            made = length r.bytes;
            passed = length r.sent;
            stop = r.stop;
            full = r.full;
          };
      answers = r.bytes ++ drop (length r.bytes) out;
      sent = r.sent ++ drop (length r.sent) sent;
    }

-- nothing is done
abbrev pub unserved_desk : Desk → List ℕ → List ℕ → DeskServing
unserved_desk d out sent =
    record {
      says = record { answer = NoRoom; desk = d; used = 0; made = 0; passed = 0; stop = false; full = false };
      answers = out;
      sent = sent;
    }

-- a run of messages in lent room: 17 and nothing else where the room for what is sent is shorter than the input
unfoldable pub desk_serving : Desk → List ℕ → List ℕ → List ℕ → DeskServing
desk_serving d input out sent =
    cond (ltb (length sent) (length input)) (unserved_desk d out sent) (served_desk (desk_run (length out) d input) out sent)
