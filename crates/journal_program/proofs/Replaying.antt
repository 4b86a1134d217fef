-- A journal of version 1.0, piece by piece: the station is the one that the bytes so far make. Assumes nothing.
use Rattle.std.proofs.Common.{◌≡◌, ℕ, ◌+◌, ◌-◌, ◌<◌, ◌≤◌, false, List, [], length, take, sym, refl, ap, ◌∙◌, subst, arith, length-take, length-take-le, le-leb}
use lib.Seq.{length-slice}
use Rattle.station.specs.declared.Station.{Station}
use Rattle.station.specs.Station.{start_of}
use Rattle.service.specs.Runs.{Serving, run, served, serving, enough}
use Rattle.service.specs.Turns.{holding_front, turning}
use Rattle.service.proofs.TurnStatements.{rest_is_short}
use Rattle.journal.specs.declared.Replay.{Replay}
use Rattle.journal.specs.Journal.{counted, Journaled}
use Rattle.journal.specs.Pieces.{replaying}
use Rattle.journal.proofs.Which.{used_within, only_messages, stays_journaled}
use Rattle.std.specs.declared.option.Option.TheVariants.{Some}
use Rattle.std.specs.declared.result.Result.TheVariants.{Ok}
use Rattle.streams.specs.Input.{Input, Fills}

-- in room that is enough all is served
all_served : (s : Station) (buf : List ℕ) (end : ℕ) (room : List ℕ) → enough (length buf) ≤ length room
    → serving s (take end buf) room ≡ served (run s (take end buf)) room
unfolding serving
all_served s buf end room h =
    let l = length-take end buf in
    rw (le-leb (enough (length (take end buf))) (length room) (omega arith))

-- a read fills no more than the buffer
pub filled : (before after : List ℕ) (have end : ℕ) (r : Input) → Fills before have r after → r ≡ Ok (Some end) → end ≤ length before
filled before after have end r f e = let g : Fills before have (Ok (Some end)) after = subst (λ (x : Input). Fills before have x after) e f in g.1

-- no bytes make the start
pub from_start : Journaled start_of 0
from_start = record { bytes = []; follows = record { messages = []; each = tt; bytes_are = refl; station = refl }; long = refl }

module _ (r : Replay) (buf : List ℕ) (end : ℕ) (room : List ℕ) (q : Replay) (fits : enough (length buf) ≤ length room)
    (says : q ≡ (replaying r buf end room).says) where
  pub piece_short : q.damaged ≡ false → q.have < 45
  unfolding replaying
  piece_short sound =
      let l = length-take end buf in
      let stop = sym (ap (λ (x : Replay). x.damaged) says) ∙ sound in
      rw (ap (λ (x : Replay). x.have) says) (rest_is_short r.station buf end room (omega arith) stop)

  pub piece_journaled : end ≤ length buf → Journaled r.station r.whole → Journaled q.station q.whole
  unfolding replaying turning holding_front
  piece_journaled within was =
      let s = r.station in
      let input = take end buf in
      let all = all_served s buf end room fits in
      let u = used_within s input in
      let l = length-take end buf in
      let bytes = take (run s input).used input in
      let long : length bytes ≡ (run s input).used = length-take-le (run s input).used input u in
      let held : (holding_front (serving s input room).says.used end buf).says ≡ end - (run s input).used =
      ap (λ (x : Serving). (holding_front x.says.used end buf).says) all ∙ length-slice (run s input).used end buf within in
      let gone : end - (holding_front (serving s input room).says.used end buf).says ≡ length bytes = omega arith in
      let whole : q.whole ≡ counted (r.whole + length bytes) =
      ap (λ (x : Replay). x.whole) says ∙ ap (λ (n : ℕ). counted (r.whole + n)) gone in
      let station : q.station ≡ (run s input).station = ap (λ (x : Replay). x.station) says ∙ ap (λ (x : Serving). x.says.station) all in
      rw (whole, station) (stays_journaled s (run s input).station r.whole bytes was (only_messages s input).follows)
