-- What the entries for a planner in C or Rust answer, and what they leave in the room that is lent to them: here an ask, a message and the
-- number of cars. The calls and the questions on a record, which other entries have too, stand in rooms. Assumes nothing.
use Rattle.std.specs.Prelude.{◌≡◌, cond, ◌||◌, List, ◌++◌, ℕ, ◌+◌, ◌*◌, ◌%◌, eqb, ltb, length, drop}
use Rattle.std.specs.declared.option.Option.{Option}
use Rattle.std.specs.declared.option.Option.TheVariants.{Some, None}
use Rattle.answers.specs.declared.Answer.TheVariants.{Taken, NoRoom}
use Rattle.station.specs.Calls.{ask}
use Rattle.wire.specs.declared.What.{What}
use Rattle.wire.specs.declared.What.TheVariants.{Request, Event, Result, Image, Ask, Held}
use Rattle.rooms.specs.Rooms.{station_size, station_bytes, station_of, image_bytes, returned, Entry, writes, no_room}
use Rattle.service.specs.Service as service
use Rattle.service.specs.Service.{respond}

-- the image is asked for: it is written to a room of its own
unfoldable pub asking : List ℕ → List ℕ → Entry
asking room image =
    let s = station_of room in
    cond (ltb (length room) station_size || ltb (length image) 16) (no_room image) (writes (ask s).answer (image_bytes s.bits s.apart) image)

-- ---- a message on a lent station

-- what is returned besides a message that answers: its number, place and issue, or 0 with the image after an ask
abbrev pub returned_of : What → ℕ
returned_of (What.Answer number place issue) = number + 256 * place + 65536 * issue
returned_of (Held bits apart) = returned Taken
returned_of Request = returned Taken
returned_of (Event way) = returned Taken
returned_of (Result issue number ending) = returned Taken
returned_of (Image bits apart) = returned Taken
returned_of Ask = returned Taken

-- what the entry answers, and what it leaves in the station's room and in the reply's
pub record Exchange : Type 0 where
  pub says : ℕ
  pub station : List ℕ
  pub reply : List ℕ

-- what it answers is answered, and what it leaves is left
abbrev pub Exchanges : Exchange → ℕ → List ℕ → List ℕ → Type 0
Exchanges e r room reply = (r ≡ e.says) × (room ≡ e.station) × (reply ≡ e.reply)

-- the first message of a run is answered: 17 where either room is too short, and then neither is written; else the reply is written, and
-- the next station if the message was taken
unfoldable pub exchange : List ℕ → List ℕ → List ℕ → Exchange
exchange room message reply =
    let o = respond (station_of room) message in
    let answer = returned_of o.answer in
    let bytes = service.answer_bytes o.answer in
    cond (ltb (length room) station_size || ltb (length reply) (length bytes))
    (record { says = returned NoRoom; station = room; reply = reply })
    (record {
      says = answer;
      station = cond (eqb (answer % 256) 0) (station_bytes o.station ++ drop station_size room) room;
      reply = bytes ++ drop (length bytes) reply;
    })

-- ---- cars

-- the number of cars: 255 where the record isn't sound, which is no sound record's number, as a layout has at most 30 cars
abbrev pub cars_or255 : Option ℕ → ℕ
cars_or255 (Some n) = n
cars_or255 None = 255
