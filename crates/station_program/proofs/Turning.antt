-- A turn as the program's loop has it: what it takes of the buffer is whole messages, which take the journal's station to the next, and what
-- it holds is less than a message, unless it stops. Assumes nothing.
use mathlib.Core.Path.{◌≡◌, sym, ap, subst, ◌∙◌}
use mathlib.Core.Bool.{Bool, true, false, not, ◌||◌}
use mathlib.Core.List.{List}
use Prim.Native.Nat.{ℕ, ◌+◌, ◌≤◌, ◌<◌}
use native.Mathlib.Omega.{arith}
use borrow.Author.Tests.{le-leb, not-false}
use lib.ListN.{length, take, length-take}
use lib.Seq.{take-take, length-take-le}
use Rattle.bits.proofs.Cases.{neither}
use Rattle.station.specs.declared.Station.{Station}
use Rattle.service.specs.declared.Served.{Served}
use Rattle.service.specs.Runs.{Serving, Serves, run, served, serving, enough}
use Rattle.std.specs.declared.option.Option.TheVariants.{Some}
use Rattle.std.specs.declared.result.Result.TheVariants.{Ok}
use Rattle.streams.specs.Input.{Input, Fills}
use Rattle.service.specs.Turns.{Holding, Holds, holding_front, turning}
use Rattle.service.proofs.TurnStatements.{rest_is_short}
use Rattle.journal.specs.Journal.{Follows}
use Rattle.station_program.specs.declared.Between.{Between}
use Rattle.station_program.specs.Keeping.{AsTurn, TurnedOver, RoomForAnswers}
use Rattle.journal.proofs.Which.{used_within, only_messages}

-- in room that is enough all is served
pub all_served : (s : Station) (buf : List ℕ) (end : ℕ) (room : List ℕ) → enough (length buf) ≤ length room
    → serving s (take end buf) room ≡ served (run s (take end buf)) room
unfolding serving
all_served s buf end room h =
    let l = length-take end buf in
    rw (le-leb (enough (length (take end buf))) (length room) (omega arith))

-- a read fills no more than the buffer
pub filled : (before after : List ℕ) (have end : ℕ) (r : Input) → Fills before have r after → r ≡ Ok (Some end) → end ≤ length before
filled before after have end r f e = let g : Fills before have (Ok (Some end)) after = subst (λ (x : Input). Fills before have x after) e f in g.1

module _ (s : Station) (buf : List ℕ) (end : ℕ) (room : List ℕ) (w : Served) (fits : enough (length buf) ≤ length room)
    (says : w ≡ (serving s (take end buf) room).says) where
  -- it says what the run leaves
  ran : w ≡ (served (run s (take end buf)) room).says
  ran = says ∙ ap (λ (r : Serving). r.says) (all_served s buf end room fits)

  used : w.used ≡ (run s (take end buf)).used
  used = ap (λ (r : Served). r.used) ran

  pub taken_within : (w.used ≤ end) × (w.used ≤ length buf)
  taken_within =
      let l = length-take end buf in
      let u = used_within s (take end buf) in
      let e = used in
      (omega arith, omega arith)

  pub taken_long : w.used ≡ length (take w.used buf)
  taken_long = sym (length-take-le w.used buf taken_within.1)

  pub taken_follows : Follows s (take w.used buf) w.station
  taken_follows =
      let input = take end buf in
      let next : w.station ≡ (run s input).station = ap (λ (r : Served). r.station) ran in
      let bytes : take w.used buf ≡ take (run s input).used input =
      sym (take-take w.used end buf taken_within.0) ∙ ap (λ (n : ℕ). take n input) used in
      rw (next, bytes) (only_messages s input).follows

  pub held_short : (have : ℕ) (other : Bool) → have ≡ (holding_front w.used end buf).says → w.stop || other ≡ false → have < 45
  unfolding turning
  held_short have other h q =
      let l = length-take end buf in
      let stop = sym (ap (λ (r : Served). r.stop) says) ∙ (neither w.stop other q).0 in
      rw (h, ap (λ (r : Served). r.used) says) (rest_is_short s buf end room (omega arith) stop)

-- the two steps are a turn
pub as_turn : (s : Station) (buf : List ℕ) (end : ℕ) (room : List ℕ) (w : Served) (out : List ℕ) (n : ℕ) (after : List ℕ) (station : Station)
    → (other : Bool) → Serves (serving s (take end buf) room) w out → Holds (holding_front w.used end buf) n after → station ≡ w.station
    → let t = turning s buf end room in
    (station ≡ t.says.station)
    × (n ≡ t.says.have)
    × (w.stop || other ≡ false → t.says.stop ≡ false)
    × (after ≡ t.buffer)
    × (out ≡ t.answers)
unfolding turning
as_turn s buf end room w out n after station other (says, leaves) (holds, front) e =
    let held = ap (λ (r : Served). holding_front r.used end buf) says in (
      e ∙ ap (λ (r : Served). r.station) says,
      holds ∙ ap (λ (h : Holding). h.says) held,
      λ q. sym (ap (λ (r : Served). r.stop) says) ∙ (neither w.stop other q).0,
      front ∙ ap (λ (h : Holding). h.leaves) held,
      leaves,
    )

-- what a turn over the bytes of a read leaves
pub turned_over : (s : Station) (have : ℕ) (before room read : List ℕ) (end : ℕ) (r : Input) {t : Between} {buf out : List ℕ}
    → Fills before have r read → r ≡ Ok (Some end) → AsTurn (turning s read end room) t buf out → TurnedOver s have before room t buf out
turned_over s have before room read end r f e a =
    record { end = end; read = read; fills = subst (λ (x : Input). Fills before have x read) e f; turned = a }

-- the program's buffer is longer than what it reads, and its room is enough for all answers to that
pub rooms_enough : {n m : ℕ} → 135168 ≡ n → 327680 ≡ m → (65536 ≤ n) × (enough 65536 ≤ m)
rooms_enough held room = (omega arith, omega arith)

-- of these 64 KiB are read at once: longer than a message, and the room is enough for all answers to them
pub front_roomy : (buf out : List ℕ) → 65536 ≤ length buf → enough 65536 ≤ length out → RoomForAnswers (take 65536 buf) out
front_roomy buf out held room = let l = length-take-le 65536 buf held in (omega arith, omega arith, omega arith)

-- it is enough to read a journal
pub room_lent : {m : ℕ} → 327680 ≡ m → 327680 ≤ m
room_lent e = omega arith
