-- What an ask and a question for the next record leave, case by case. Assumes nothing.
use mathlib.Core.Path.{◌≡◌, refl, ap}
use mathlib.Core.Bool.{true, false}
use mathlib.Core.List.{List}
use Prim.Native.Nat.{ℕ, ◌≤◌, ◌<◌}
use native.Mathlib.Omega.{arith}
use borrow.Author.Tests.{lt-ltb, le-ltb}
use lib.ListN.{length}
use Rattle.codec.specs.Bytes.{little_endian}
use Rattle.answers.specs.declared.Answer.{Answer}
use Rattle.answers.specs.declared.Answer.TheVariants.{TooFewBytes, NoRoom, OutOfTurn}
use Rattle.station.specs.declared.Station.{Station}
use Rattle.station.specs.declared.Outcome.{Outcome}
use Rattle.rules.specs.Codes.{code_from}
use Rattle.station.specs.Held.{crosses}
use Rattle.station.specs.Calls.{ask}
use Rattle.rules.specs.declared.Refusal.{Refusal}
use Rattle.std.specs.declared.result.Result.{Result}
use Rattle.rooms.specs.Rooms.{lent_station, image_bytes, returned, LeavesRoom, writes, telling}
use Rattle.rooms.specs.Questions.{moved, answer_to, request_answer, record_in, nexting}
use Rattle.rooms.proofs.Rooms.{as_writes, lent_there}
use Rattle.rooms.proofs.Judging.{crossed_says, clear_says}
use Rattle.station_c.specs.Entries.{asking}

-- an ask: either room is too short
pub ask_short : (room image : List ℕ) {r : ℕ} → length room < 60 → r ≡ returned NoRoom → LeavesRoom (asking room image) r image
unfolding asking
ask_short room image h e = rw (lt-ltb _ _ h) (e, refl)

pub image_short : (room image : List ℕ) {r : ℕ} → 60 ≤ length room → length image < 16 → r ≡ returned NoRoom → LeavesRoom (asking room image) r image
unfolding asking
image_short room image h l e = rw (le-ltb _ _ h, lt-ltb _ _ l) (e, refl)

-- or the image is written
pub asked : (room image : List ℕ) {s : Station} {o : Outcome} {b : List ℕ} {n r : ℕ} {last : List ℕ} → 60 ≤ length room → 16 ≤ length image
    → s ≡ lent_station room → o ≡ ask s → b ≡ image_bytes s.bits s.apart → n ≡ returned o.answer → LeavesRoom (telling n b image) r last
    → LeavesRoom (asking room image) r last
unfolding asking
asked room image {s} {o} {b} h k e f g q w =
    let size : length b ≡ 16 = ap length g in
    rw (le-ltb _ _ h, le-ltb _ _ k, ← lent_there room h e, ← f) (as_writes o.answer (image_bytes s.bits s.apart) image g (omega (arith, size, k)) q w)

-- the next record: its room is too short
pub next_short : (x : ℕ) (five room : List ℕ) {r : ℕ} → length room < 8 → r ≡ returned NoRoom → LeavesRoom (nexting x five room) r room
unfolding nexting
next_short x five room h e = rw (lt-ltb _ _ h) (e, refl)

-- too few bytes say no instruction
pub few : (x : ℕ) (five room : List ℕ) {r : ℕ} → 8 ≤ length room → length five < 5 → r ≡ returned TooFewBytes → LeavesRoom (nexting x five room) r room
unfolding nexting request_answer writes
few x five room h l e = rw (le-ltb _ _ h, lt-ltb _ _ l) (e, refl)

-- with the lift in its area under a driver there is none
pub hindered : (x : ℕ) (five room : List ℕ) {r : ℕ} → 8 ≤ length room → 5 ≤ length five → crosses (code_from five) x ≡ true → r ≡ returned OutOfTurn
    → LeavesRoom (nexting x five room) r room
unfolding nexting writes
hindered x five room h l c e = rw (le-ltb _ _ h, crossed_says x five l c) (e, refl)

-- or it is there
pub followed : (x : ℕ) (five room : List ℕ) {m : Result ℕ Refusal} {a : Answer} {y : ℕ} {b : List ℕ} {n r : ℕ} {last : List ℕ} → 8 ≤ length room → 5 ≤ length five
    → crosses (code_from five) x ≡ false → m ≡ moved x five → a ≡ answer_to m → y ≡ record_in m → b ≡ little_endian 8 y → n ≡ returned a
    → LeavesRoom (telling n b room) r last → LeavesRoom (nexting x five room) r last
unfolding nexting
followed x five room {m} {a} {y} {b} h l c e f g k q w =
    let size : length b ≡ 8 = ap length k in
    rw (le-ltb _ _ h, clear_says x five l c, ← e, ← f, ← g) (as_writes a (little_endian 8 y) room k (omega (arith, size, h)) q w)
