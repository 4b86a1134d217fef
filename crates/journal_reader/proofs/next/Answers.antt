use Rattle.journal_reader.proofs.Taking.{stopped_next, taken_next}
use borrow.Author.Tests.{not-false}
use Rattle.std.proofs.Common.{refl, arith}
use Rattle.journal_reader.proofs.next.Goals as goal

pub returns-then-not-fits : goal.returns-then-not-fits
returns-then-not-fits c = stopped_next c.args.t.now c.args.room.now c.args.buf.now c.args.buf.now c.args.q c.args.q _ c.stopped.ensures (refl, refl, refl)

pub bring-b-requires : goal.bring-b-requires
bring-b-requires c = c.fits.ensures (not-false _ c.if-not-fits.false-raw)

pub returns-then-not-b : goal.returns-then-not-b
returns-then-not-b c = stopped_next c.args.t.now c.args.room.now c.args.buf.now c.bring-b.new.buf c.args.q c.bring-b.result _ c.stopped-then-not-b.ensures c.bring-b.ensures.1

pub take-requires : goal.take-requires
take-requires c = let w = c.bring-b.ensures.0 in ((omega (arith, w.0, c.bring-b.auto.buf), w.1, w.2, omega (arith, w.3, c.bring-b.auto.buf)), refl, refl)

pub returns : goal.returns
returns c = taken_next c.args.t.now c.args.room.now c.args.buf.now c.bring-b.new.buf c.args.q c.bring-b.result _ c.bring-b.auto.buf c.bring-b.ensures c.take.ensures
