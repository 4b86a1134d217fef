-- A turn of the desk's program: the bytes held at the front of a buffer are answered as far as there is room, and what is left of them is
-- held there. Assumes nothing.
use Rattle.std.specs.Prelude.{◌≡◌, true, false, List, ℕ, ◌≤◌, ◌<◌, length, take}
use Rattle.std.specs.declared.option.Option.TheVariants.{Some}
use Rattle.std.specs.declared.result.Result.TheVariants.{Ok}
use Rattle.streams.specs.Input.{Fills}
use Rattle.service.specs.Turns.{holding_front}
use Rattle.desk.specs.declared.Desk.{Desk}
use Rattle.desk_buffer.specs.declared.DeskServed.{DeskServed}
use Rattle.desk_buffer.specs.DeskServing.{desk_serving}
use Rattle.desk_program.specs.declared.Between.{Between}

-- what a turn leaves: what serving says, how many bytes are held, and what stands in the buffer and in the rooms for answers and for what is
-- sent
pub record DeskTurning : Type 0 where
  pub served : DeskServed
  pub have : ℕ
  pub buffer : List ℕ
  pub answers : List ℕ
  pub sent : List ℕ

-- a turn over the first `end` bytes of a buffer: they are served, and what was not taken is held
unfoldable pub desk_turning : Desk → List ℕ → ℕ → List ℕ → List ℕ → DeskTurning
desk_turning d buf end out sent =
    let w = desk_serving d (take end buf) out sent in
    let h = holding_front w.says.used end buf in
    record { served = w.says; have = h.says; buffer = h.leaves; answers = w.answers; sent = w.sent }

-- the program is where a turn leaves it, and goes on only where the turn does: so not after a length that is out of range
abbrev pub AsDeskTurn : DeskTurning → Between → List ℕ → List ℕ → List ℕ → Type 0
AsDeskTurn w t buf out sent =
    (t.desk ≡ w.served.desk)
    × (t.have ≡ w.have)
    × (t.full ≡ w.served.full)
    × (t.stop ≡ false → w.served.stop ≡ false)
    × (buf ≡ w.buffer)
    × (out ≡ w.answers)
    × (sent ≡ w.sent)

-- what is held lies within the buffer, and is less than a message where all whole ones were answered: then a read has room
abbrev pub DeskGoes : Between → List ℕ → Type 0
DeskGoes t buf = t.stop ≡ false → (t.have ≤ length buf) × (t.full ≡ false → t.have < 145)

-- a buffer that is longer than a message, and as much room for what is sent
abbrev pub DeskRoom : List ℕ → List ℕ → Type 0
DeskRoom buf sent = (145 ≤ length buf) × (length buf ≤ length sent)

-- a turn over what was held where answers had no room before; else over what was read behind it
pub record DeskTurnedOver (b : Between) (before out₀ sent₀ : List ℕ) (t : Between) (buf out sent : List ℕ) : Type 0 where
  pub end : ℕ
  pub read : List ℕ
  pub held : b.full ≡ true → (end ≡ b.have) × (read ≡ before)
  pub fills : b.full ≡ false → Fills before b.have (Ok (Some end)) read
  pub turned : AsDeskTurn (desk_turning b.desk read end out₀ sent₀) t buf out sent
