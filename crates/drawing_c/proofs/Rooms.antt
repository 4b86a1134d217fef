-- What the entries leave, case by case. Assumes nothing.
use mathlib.Core.Path.{◌≡◌, refl, ap, ◌∙◌}
use mathlib.Core.Bool.{Bool, false, cond}
use mathlib.Core.List.{List, ◌++◌}
use Prim.Native.Nat.{ℕ, ◌%◌, ◌≤◌, ◌<◌}
use lib.Dec.{eqb, ltb}
use lib.ListN.{length, drop}
use native.Mathlib.Omega.{arith}
use borrow.Author.Tests.{lt-ltb, le-ltb}
use Rattle.codec.specs.Bytes.{little_endian}
use Rattle.answers.specs.declared.Answer.TheVariants.{NoRoom}
use Rattle.rooms.specs.Rooms.{returned, LeavesRoom, telling}
use Rattle.std.specs.declared.result.Result.{Result}
use Rattle.std.specs.declared.result.Result.TheVariants.{Ok, Err}
use Rattle.drawing.specs.declared.Unwritten.{Unwritten}
use Rattle.drawing.specs.declared.Unread.{Unread}
use Rattle.drawing.specs.Drawing as drawing
use Rattle.drawing.specs.Drawing.{writing_drawing}
use Rattle.drawing.specs.Reading.{reading}
use Rattle.drawing_c.specs.Entries.{written_said, drawn_into, found_said, record_kept, read_into}

-- a number that is drawn
pub written : (w : Bool) (r : ℕ) (room : List ℕ) (d : Result ℕ Unwritten) {last : List ℕ} {n : ℕ} → drawing.LeavesDrawing (writing_drawing w r room) d last → n ≡ written_said d
    → LeavesRoom (drawn_into w r room) n last
unfolding drawn_into
written w r room d l e = (e ∙ ap written_said l.0, l.1)

-- what reading found, as it is told; refused, nothing is written
pub is_kept : (x : ℕ) (room : List ℕ) {b : List ℕ} {n r : ℕ} {last : List ℕ} → n ≡ found_said (Ok x) → b ≡ little_endian 8 x
    → length b ≤ length room → LeavesRoom (telling n b room) r last → LeavesRoom (record_kept (Ok x) room) r last
unfolding record_kept telling
is_kept x room {b} e d l w =
    let fits : ltb (length room) (length b) ≡ false = le-ltb _ _ l in
    let size : length b ≡ 8 = ap length d in
    let t = rw (e, fits, size) at w in
    (t.0, t.1 ∙ ap (λ (y : List ℕ). y ++ drop 8 room) d)

pub is_refused : (why : Unread) (room : List ℕ) {n : ℕ} → n ≡ found_said (Err why) → LeavesRoom (record_kept (Err why) room) n room
unfolding record_kept
is_refused why room e = (e, refl)

-- a drawing that is read
module _ (w : Bool) (text room : List ℕ) {n : ℕ} where
  pub no_room_lem : length room < 8 → n ≡ returned NoRoom → LeavesRoom (read_into w text room) n room
  unfolding read_into
  no_room_lem h e = rw (lt-ltb (length room) 8 h) (e, refl)

  pub is_read : {f : Result ℕ Unread} {last : List ℕ} → 8 ≤ length room → f ≡ reading w text → LeavesRoom (record_kept f room) n last → LeavesRoom (read_into w text room) n last
  unfolding read_into
  is_read h e l = rw (le-ltb (length room) 8 h, ← e) l
