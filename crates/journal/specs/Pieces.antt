-- A journal that is read piece by piece, through a buffer: what is known of it between two pieces. Assumes nothing.
use Rattle.std.specs.Prelude.{◌≡◌, ℕ, ◌+◌, ◌-◌, false, cond, List, [], ◌∷◌, ◌++◌, drop}
use Rattle.station.specs.declared.Station.{Station}
use Rattle.station.specs.Station.{start_of}
use Rattle.service.specs.Turns.{turning}
use Rattle.journal.specs.declared.Replay.{Replay}
use Rattle.journal.specs.Journal.{Replayed, replay_on, counted}

-- ---- what a replay gives that comes in pieces

-- n bytes of whole messages before it
abbrev pub replay_further : ℕ → Replayed → Replayed
replay_further n r = record { station = r.station; whole = n + r.whole; damaged = r.damaged }

-- each piece is put behind the bytes that are held from before, its whole messages are replayed, and the rest is held; where it is damaged
-- nothing more is read
unfoldable pub replay_fed : Station → List ℕ → List (List ℕ) → Replayed
replay_fed s held [] = record { station = s; whole = 0; damaged = false }
replay_fed s held (p ∷ ps) =
    let r = replay_on s (held ++ p) in
    cond r.damaged r (replay_further r.whole (replay_fed r.station (drop r.whole (held ++ p)) ps))

-- ---- a piece in a buffer

-- before the first piece
abbrev pub replay_begun : Replay
replay_begun = record { station = start_of; whole = 0; have = 0; damaged = false }

-- what the replay of a piece says, and what it leaves in the buffer and in the room
pub record Replaying : Type 0 where
  pub says : Replay
  pub buffer : List ℕ
  pub room : List ℕ

-- what is said and left
abbrev pub Replays : Replaying → Replay → List ℕ → List ℕ → Type 0
Replays w r buf room = (r ≡ w.says) × (buf ≡ w.buffer) × (room ≡ w.room)

-- a turn of the station over the first `end` bytes of the buffer: those of them that are held no more were whole messages. Its answers lie
-- in the room, where nobody reads them
unfoldable pub replaying : Replay → List ℕ → ℕ → List ℕ → Replaying
replaying r buf end room =
    let t = turning r.station buf end room in
    record {
      says = record { station = t.says.station; whole = counted (r.whole + (end - t.says.have)); have = t.says.have; damaged = t.says.stop };
      buffer = t.buffer;
      room = t.answers;
    }
