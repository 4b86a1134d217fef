-- `station_program::begin` meets its contract: 64 KiB are longer than a message, and the room is enough for all answers to them. Assumes nothing.
use mathlib.Core.Path.{sym}
use lib.Seq.{length-take-le}
use Rattle.station_program.proofs.Turning.{front_roomy}
use Rattle.station_program.proofs.begin.Goals as goal

pub slice_bounds-session-end-2 : goal.slice_bounds-session-end-2
slice_bounds-session-end-2 c = sym (length-take-le 65536 c.args.buf.now c.requires.0)

pub session-requires : goal.session-requires
session-requires c = (front_roomy c.args.buf.now c.args.out.now c.requires.0 c.requires.1, c.requires.2, c.requires.3)
