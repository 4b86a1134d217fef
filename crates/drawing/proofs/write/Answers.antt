use native.Mathlib.Omega.{arith}
use Rattle.drawing.proofs.Drawn.{not_sound, no_room_lem, written}
use Rattle.drawing.proofs.Words.{last_short}
use Rattle.drawing.proofs.write.Goals as goal

pub returns-then-not-has_drawing : goal.returns-then-not-has_drawing
returns-then-not-has_drawing c =
    not_sound c.args.apart c.args.image
    c.args.room.now c.has_drawing.ensures c.if-not-has_drawing.true-raw

pub overflow_add-size : goal.overflow_add-size
overflow_add-size c = omega (arith, c.last_size-size.ensures, last_short c.args.apart c.last_of-lift.result)

pub returns-then-room-size : goal.returns-then-room-size
returns-then-room-size c =
    no_room_lem c.args.apart
    c.args.image
    c.args.room.now
    c.has_drawing.ensures c.if-not-has_drawing.false-raw
    c.last_of-lift.ensures c.last_size-size.ensures c.if-room-size.true

pub overflow_cast-result : goal.overflow_cast-result
overflow_cast-result c =
    omega (
      arith,
      c.last_size-size.ensures,
      last_short
          c.args.apart
          c.last_of-lift.result,
    )

pub returns : goal.returns
returns c =
    written c.args.apart
    c.args.image
    c.args.room.now
    c.has_drawing.ensures
    c.if-not-has_drawing.false-raw
    c.last_of-lift.ensures
    c.last_size-size.ensures c.if-room-size.false
    c.put.ensures
