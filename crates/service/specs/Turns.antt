-- A turn: some bytes held at the front of a buffer are answered, and what is left of them is held there. Assumes nothing.
use Rattle.std.specs.Prelude.{◌≡◌, List, ◌++◌, ℕ, length, take, drop}
use Rattle.std.proofs.Math.Seq.{slice}
use Rattle.station.specs.declared.Station.{Station}
use Rattle.service.specs.Runs.{serving}
use Rattle.service.specs.declared.buffer.Turned.{Turned}

-- these bytes at the front of a buffer, and past them what was there
abbrev pub front : List ℕ → List ℕ → List ℕ
front bytes buf = bytes ++ drop (length bytes) buf

-- what a call that holds bytes says, and what it leaves in the buffer
pub record Holding : Type 0 where
  pub says : ℕ
  pub leaves : List ℕ

-- what a call says is said, and what it leaves is left
abbrev pub Holds : Holding → ℕ → List ℕ → Type 0
Holds w n buf = (n ≡ w.says) × (buf ≡ w.leaves)

-- the bytes of the buffer from the first place up to the second, of those that there are, at its front
unfoldable pub holding_front : ℕ → ℕ → List ℕ → Holding
holding_front from to buf = record { says = length (slice from to buf); leaves = front (slice from to buf) buf }

-- what a turn says, and what it leaves in the buffer and in the room for answers
pub record Turning : Type 0 where
  pub says : Turned
  pub buffer : List ℕ
  pub answers : List ℕ

-- what a turn says is said, and what it leaves in each is left
abbrev pub Turns : Turning → Turned → List ℕ → List ℕ → Type 0
Turns w r buf out = (r ≡ w.says) × (buf ≡ w.buffer) × (out ≡ w.answers)

-- a turn: a run of the messages among the first `end` bytes, of those that there are, and then what it didn't take is held
unfoldable pub turning : Station → List ℕ → ℕ → List ℕ → Turning
turning s buf end room =
    let w = serving s (take end buf) room in
    let h = holding_front w.says.used end buf in
    record {
      says = record { answer = w.says.answer; station = w.says.station; have = h.says; made = w.says.made; stop = w.says.stop };
      buffer = h.leaves;
      answers = w.leaves;
    }
