-- `report_program::session` meets its contract: each turn goes on from all that was read before, less than a message is held, and the reads
-- that are left shrink. Assumes nothing.
use Rattle.std.proofs.Common.{refl}
use borrow.Author.Rules.{rules}
use Rattle.bits.proofs.Cases.{clash}
use Rattle.report_program.proofs.Turning.{nothing_yet, turned_on}
use Rattle.report_program.proofs.session.Goals as goal

pub loop-reads-init : goal.loop-reads-init
loop-reads-init c = (search rules, search rules, refl, nothing_yet _ _ _ c.requires.1 c.start.ensures refl)

pub returns-then-t : goal.returns-then-t
returns-then-t c = (turned_on c.loop-reads.invariant.3 c.one_turn-t.ensures.1).0

pub loop-reads-preserved : goal.loop-reads-preserved
loop-reads-preserved c =
    let turn = c.one_turn-t.ensures in
    let on = c.if-t.false in
    (search rules, turn.0 on, on, (turned_on c.loop-reads.invariant.3 turn.1).1 on)

pub returns : goal.returns
returns c q = clash q c.loop-reads.invariant.2
