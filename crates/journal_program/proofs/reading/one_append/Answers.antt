-- `journal_program::reading::one_append` meets its contract. Assumes nothing.
use Rattle.std.proofs.Common.{arith}
use borrow.Author.Tests.{not-false}
use Rattle.bits.proofs.Cases.{both}
use Rattle.journal_reader.proofs.Standing.{next_stands}
use Rattle.journal_program.proofs.Recorded.{taken_is}
use Rattle.journal_program.proofs.reading.one_append.Goals as goal

pub slice_bounds-say_messages-count : goal.slice_bounds-say_messages-count
slice_bounds-say_messages-count c = (c.next-r.ensures.0 (not-false _ c.if-not-r.false)).1

pub slice_bounds-say_messages-start : goal.slice_bounds-say_messages-start
slice_bounds-say_messages-start c = (c.next-r.ensures.0 (not-false _ c.if-not-r.false)).1

pub slice_bounds-say_messages-end : goal.slice_bounds-say_messages-end
slice_bounds-say_messages-end c = let w = c.next-r.ensures.0 (not-false _ c.if-not-r.false) in omega (arith, w.2, w.3)

pub say_messages-requires : goal.say_messages-requires
say_messages-requires c = taken_is c.args.t.now c.args.room.now c.args.buf.now c.next-r.new.buf c.args.q c.next-r.result
    c.next-r.ensures c.requires.0 (both c.next-r.result.took c.args.tell c.if-r-tell.true).0

pub returns-in_ok-say_messages : goal.returns-in_ok-say_messages
returns-in_ok-say_messages c =
    let w = c.next-r.ensures.0 (not-false _ c.if-not-r.false) in (
      (omega (arith, w.0), w.1, w.2, omega (arith, w.3)),
      next_stands c.args.t.now c.args.room.now c.args.buf.now c.next-r.new.buf c.args.q c.next-r.result c.next-r.ensures c.requires.0 c.requires.1,
    )

pub returns-else-r-tell : goal.returns-else-r-tell
returns-else-r-tell c =
    let w = c.next-r.ensures.0 (not-false _ c.if-not-r.false) in (
      (omega (arith, w.0), w.1, w.2, omega (arith, w.3)),
      next_stands c.args.t.now c.args.room.now c.args.buf.now c.next-r.new.buf c.args.q c.next-r.result c.next-r.ensures c.requires.0 c.requires.1,
    )
