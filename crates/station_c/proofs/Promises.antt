-- The promises of specs/Promises.antt. Assumes nothing.
use mathlib.Core.Path.{◌≡◌, refl, ap}
use mathlib.Core.Bool.{◌||◌}
use Prim.Native.Nat.{ℕ, ◌%◌}
use native.Mathlib.Omega.{arith}
use borrow.Author.Tests.{ne_eqb}
use lib.Dec.{ltb}
use lib.ListN.{length}
use Rattle.bits.proofs.Cases.{split}
use Rattle.codec.specs.Bytes.{little_endian}
use Rattle.answers.specs.declared.Answer.{Answer}
use Rattle.answers.specs.declared.Answer.TheVariants.{Taken, NoRoom}
use Rattle.answers.specs.Answers.{OfTable}
use Rattle.answers.proofs.Promises.{number_byte}
use Rattle.station.specs.Calls.{ask}
use Rattle.wire.specs.declared.What.{What}
use Rattle.wire.specs.declared.What.TheVariants.{Request, Event, Result, Image, Ask, Held}
use Rattle.service.specs.Service as service
use Rattle.service.specs.Service.{respond}
use Rattle.service.specs.Statements.{Answers}
use Rattle.service.proofs.Ranges.{always_answered, never_seventeen}
use Rattle.rooms.specs.Rooms.{station_bytes, station_of, image_bytes, returned, writes, entry}
use Rattle.rooms.specs.Questions.{request_answer}
use Rattle.station_c.specs.Entries.{asking, returned_of, exchange}
use Rattle.station_c.specs.Sets.{area_in, area_bits, area_answer, area_into, pair_answer}
use Rattle.rooms.proofs.Promises.{refused_writes, of_table, next_untouched, next_of_table}
use Rattle.station_c.specs.Promises.{StationEntryUntouched, AskRefusedUntouched, NextRefusedUntouched, MessageRefusedUntouched, AreaRefusedUntouched, NumbersInTable}

-- ---- refused, nothing is written

pub refused_untouched : StationEntryUntouched
unfolding entry writes
refused_untouched call room h = split (ltb (length room) 60)
    (λ t. rw t)
    (λ t. let o = call (station_of room) in rw t (refused_writes o.answer (station_bytes o.station) room (λ z. h (rw t z))))

pub ask_refused_untouched : AskRefusedUntouched
unfolding asking writes
ask_refused_untouched room image h = split (ltb (length room) 60 || ltb (length image) 16)
    (λ t. rw t)
    (λ t. let s = station_of room in rw t (refused_writes (ask s).answer (image_bytes s.bits s.apart) image (λ z. h (rw t z))))

pub next_refused_untouched : NextRefusedUntouched
next_refused_untouched = next_untouched

pub area_refused_untouched : AreaRefusedUntouched
unfolding area_into writes
area_refused_untouched five room h = split (ltb (length room) 8)
    (λ t. rw t)
    (λ t. rw t (refused_writes (area_answer five) (little_endian 8 (area_bits (area_in five))) room (λ z. h (rw t z))))

-- ---- of the table

reply_of_table : (w : What) → Answers w → OfTable (returned_of w % 256)
reply_of_table (What.Answer number place issue) t =
    let (a, e) = t.0 in
    let h = number_byte a in
    (a, omega arith)
reply_of_table (Held bits apart) t = of_table Taken
reply_of_table Request t = absurd t
reply_of_table (Event way) t = absurd t
reply_of_table (Result issue number ending) t = absurd t
reply_of_table (Image bits apart) t = absurd t
reply_of_table Ask t = absurd t

pub numbers_in_table : NumbersInTable
unfolding entry asking exchange area_into writes
numbers_in_table = (
  λ call room. split (ltb (length room) 60) (λ t. rw t (of_table NoRoom)) (λ t. rw t (of_table (call (station_of room)).answer)),
  λ room image. split (ltb (length room) 60 || ltb (length image) 16) (λ t. rw t (of_table NoRoom)) (λ t. rw t (of_table (ask (station_of room)).answer)),
  λ room message reply. split (ltb (length room) 60 || ltb (length reply) (length (service.answer_bytes (respond (station_of room) message).answer)))
      (λ t. rw t (of_table NoRoom))
      (λ t. rw t (reply_of_table (respond (station_of room) message).answer (always_answered (station_of room) message))),
  λ r five. of_table (request_answer r five),
  next_of_table,
  λ five room. split (ltb (length room) 8) (λ t. rw t (of_table NoRoom)) (λ t. rw t (of_table (area_answer five))),
  λ one other. of_table (pair_answer one other),
)

-- ---- a refused message

-- a reply that isn't 17 is not returned as 17
not_seventeen : (w : What) → Answers w → ((place issue : ℕ) → w ≡ What.Answer 17 place issue → ⊥) → returned_of w % 256 ≡ 17 → ⊥
not_seventeen (What.Answer number place issue) t n e =
    let (a, f) = t.0 in
    let h = number_byte a in
    let z : number ≡ 17 = omega arith in
    n place issue (ap (λ (k : ℕ). What.Answer k place issue) z)
not_seventeen (Held bits apart) t n e = omega arith
not_seventeen Request t n e = t
not_seventeen (Event way) t n e = t
not_seventeen (Result issue number ending) t n e = t
not_seventeen (Image bits apart) t n e = t
not_seventeen Ask t n e = t

pub message_refused_untouched : MessageRefusedUntouched
unfolding exchange
message_refused_untouched room message reply h =
    let s = station_of room in
    let w = (respond s message).answer in
    split (ltb (length room) 60 || ltb (length reply) (length (service.answer_bytes w)))
    (λ t. rw t (refl, λ _. refl))
    (λ t. rw t
    (rw (ne_eqb (returned_of w % 256) 0 (λ z. h (rw t z))), λ z. absurd (not_seventeen w (always_answered s message) (never_seventeen s message) z)))
