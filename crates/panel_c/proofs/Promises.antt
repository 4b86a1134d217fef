-- The promises of specs/Promises.antt. Assumes nothing.
use mathlib.Core.Path.{◌≡◌, refl}
use mathlib.Core.Bool.{Bool, true, false, cond}
use mathlib.Core.List.{List}
use Prim.Native.Nat.{ℕ, ◌+◌, ◌*◌, ◌%◌}
use native.Mathlib.Omega.{arith}
use borrow.Author.Tests.{le-ltb}
use lib.Dec.{ltb}
use lib.ListN.{length}
use Rattle.bits.specs.Bits.{bit}
use Rattle.floor.specs.Sound.{sound}
use Rattle.rules.specs.declared.Instruction.{Instruction}
use Rattle.std.specs.declared.option.Option.{Option}
use Rattle.std.specs.declared.option.Option.TheVariants.{Some, None}
use Rattle.rules.specs.Codes.{read_bytes}
use Rattle.rules.specs.Verdicts.{on_code}
use Rattle.answers.specs.declared.Answer.{Answer}
use Rattle.answers.specs.declared.Answer.TheVariants.{Taken, TooFewBytes, BadField, NoRoom, Unsound}
use Rattle.answers.specs.Answers.{OfTable, nowhere}
use Rattle.rooms.specs.Rooms.{returned, Entry, writes}
use Rattle.rooms.proofs.Promises.{returned_reads_back, next_untouched, next_of_table}
use Rattle.plain.specs.Walks.{walked}
use Rattle.panel.specs.Panel.{explained}
use Rattle.panel_c.specs.Entries.{refuses, condition_bytes, explaining, next_into, walking}
use Rattle.panel_c.specs.Promises.{PanelEntryUntouched, PanelNumbersInTable, CarsReadBack}

-- an entry that leaves the room as it was where it refuses, and returns a number of the table
pub record Fair (room : List ℕ) (e : Entry) : Type 0 where
  pub untouched : (e.says % 256 ≡ 0 → ⊥) → e.leaves ≡ room
  pub number : OfTable (e.says % 256)

module _ (room : List ℕ) where
  either : (t : Bool) {e g : Entry} → Fair room e → Fair room g → Fair room (cond t e g)
  either true p q = p
  either false p q = q

  fair_refuses : (a : Answer) → Fair room (refuses a room)
  fair_refuses a = record { untouched = λ h. refl; number = (a, (returned_reads_back a).0) }

  -- what is said is 0, whatever stands above the place
  fair_taken : (n : ℕ) (bytes : List ℕ) → Fair room (record { says = returned Taken + 65536 * n; leaves = bytes })
  fair_taken n bytes =
      let z : (returned Taken + 65536 * n) % 256 ≡ 0 = omega arith in
      record { untouched = λ h. absurd (h z); number = (Taken, z) }

  fair_writes : (bytes : List ℕ) → Fair room (writes Taken bytes room)
  unfolding writes
  fair_writes bytes = record { untouched = λ h. absurd (h refl); number = (Taken, refl) }

  fair_explaining : (r : ℕ) (five : List ℕ) (c : ℕ) → Fair room (explaining r five c room)
  unfolding explaining
  fair_explaining r five c = either (ltb (length room) 11) (fair_refuses NoRoom)
      (either (ltb (length five) 5) (fair_refuses TooFewBytes) (read (read_bytes five)))
    where
      read : (y : (Option Instruction)) → Fair room (on_code (λ i. cond (sound r) (writes Taken (condition_bytes (explained i c (bit r))) room) (refuses Unsound room)) (refuses (BadField nowhere) room) y)
      read (Some i) = either (sound r) (fair_writes (condition_bytes (explained i c (bit r)))) (fair_refuses Unsound)
      read None = fair_refuses (BadField nowhere)

  fair_following : (r : ℕ) (five : List ℕ) → Fair room (next_into r five room)
  unfolding next_into
  fair_following r five = either (ltb (length room) 8) (fair_refuses NoRoom)
      (either (ltb (length five) 5) (fair_refuses TooFewBytes)
      (either (sound r) (record { untouched = next_untouched r five room; number = next_of_table r five room }) (fair_refuses Unsound)))

  fair_walking : (r : ℕ) → Fair room (walking r room)
  unfolding walking
  fair_walking r = either (ltb (length room) 31) (fair_refuses NoRoom) (either (sound r) (fair_taken (length (walked (bit r))) _) (fair_refuses Unsound))

pub refused_untouched : PanelEntryUntouched
refused_untouched = (
  λ r five c room. (fair_explaining room r five c).untouched,
  λ r five room. (fair_following room r five).untouched,
  λ r room. (fair_walking room r).untouched,
)

pub numbers_in_table : PanelNumbersInTable
numbers_in_table = (
  λ r five c room. (fair_explaining room r five c).number,
  λ r five room. (fair_following room r five).number,
  λ r room. (fair_walking room r).number,
)

pub cars_read_back : CarsReadBack
unfolding walking
cars_read_back r room h s = rw (le-ltb (length room) 31 h, s) (omega arith)
