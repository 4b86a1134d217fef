-- `desk_program::answer` meets its contract. Assumes nothing.
use mathlib.Core.Bool.{not}
use Rattle.desk_program.proofs.DeskTurning.{goes, as_desk_turn}
use mathlib.Core.Path.{refl}
use Rattle.desk_program.proofs.answer.Goals as goal

pub returns : goal.returns
returns c = (goes c.args.d c.args.buf.now c.args.end c.args.out.now c.args.sent.now c.requires.1.1 c.serve-w.ensures c.hold-have.ensures (not c.is_ok-said.result) refl, as_desk_turn c.args.d c.args.buf.now c.args.end c.args.out.now c.args.sent.now c.requires.1.1 c.serve-w.ensures c.hold-have.ensures (not c.is_ok-said.result) refl)
