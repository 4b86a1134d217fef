-- `drawing_c::read_into` meets its contract: too short a room, or what was found. Assumes nothing.
use mathlib.Core.Path.{refl, sym, ap, ◌∙◌}
use native.Mathlib.Omega.{arith}
use Rattle.std.specs.declared.result.Result.TheVariants.{Err}
use Rattle.drawing.specs.declared.Unread.TheVariants.{BadLine, Unsound}
use Rattle.drawing_c.proofs.Rooms.{no_room_lem, is_kept, is_refused, is_read}
use Rattle.drawing_c.proofs.read_into.Goals as goal

pub returns-then-room-lt-RECORD : goal.returns-then-room-lt-RECORD
returns-then-room-lt-RECORD c =
    no_room_lem c.args.apart c.args.text.now
    c.args.room.now c.if-room-lt-RECORD.true c.say.ensures

pub returns-in-Ok : goal.returns-in-Ok
returns-in-Ok c =
    is_read c.args.apart c.args.text.now c.args.room.now c.if-room-lt-RECORD.false
    (sym c.in-Ok.is ∙ c.read.ensures)
    (is_kept _ _ c.unplaced.ensures c.image_bytes.ensures (omega arith) c.tell.ensures)

pub returns-in-Err-BadLine : goal.returns-in-Err-BadLine
returns-in-Err-BadLine c =
    is_read c.args.apart c.args.text.now c.args.room.now c.if-room-lt-RECORD.false
    (sym (c.in-Err-BadLine.is ∙ ap Err c.in-Err-BadLine.field-0-is) ∙ c.read.ensures)
    (is_refused (BadLine c.in-Err-BadLine.line) _ refl)

pub returns-in-Err-Unsound : goal.returns-in-Err-Unsound
returns-in-Err-Unsound c =
    is_read c.args.apart c.args.text.now c.args.room.now c.if-room-lt-RECORD.false
    (sym (c.in-Err-Unsound.is ∙ ap Err c.in-Err-Unsound.field-0-is) ∙ c.read.ensures)
    (is_refused Unsound _ c.unplaced-in-Err-Unsound.ensures)
