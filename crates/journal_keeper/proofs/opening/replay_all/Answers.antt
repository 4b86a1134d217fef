-- `journal_keeper::opening::replay_all` meets its contract: what was read so far stands in the buffer, and the numbers are those after it. Assumes nothing.
use Rattle.std.proofs.Common.{arith, rules}
use borrow.Author.Tests.{not-true, not-false}
use Rattle.journal_reader.specs.Reading.{last_in}
use Rattle.journal_reader.proofs.Standing.{next_cards, still_cards}
use Rattle.journal_keeper.proofs.OpeningStands.{cards_same}
use Rattle.journal_keeper.proofs.opening.replay_all.Goals as goal

pub loop-init : goal.loop-init
loop-init c = (search rules, search rules, c.requires)

pub returns-then-not-q-2 : goal.returns-then-not-q-2
returns-then-not-q-2 c = (
  (let n = c.next-q in
      let w = n.ensures.0 (not-false _ c.if-not-q.false) in
      let k = n.auto.buf in
      (omega (arith, w.0, k), w.1, w.2, omega (arith, w.3, k))),
  λ l. still_cards c.args.t.now c.loop.room c.loop.buf c.next-q.new.buf c.loop.q c.next-q.result
      c.next-q.ensures (l.0, omega (arith, l.1, c.loop.invariant.1)) (c.loop.invariant.2 l) (not-true _ c.if-not-q-2.true),
)

pub loop-preserved : goal.loop-preserved
loop-preserved c = (
  search rules,
  search rules,
  λ l.
      cards_same c.loop.cards c.loop.numbers (last_in c.next-q.result c.next-q.new.buf) c.has_cards-cards.ensures c.numbers_after-after.ensures (next_cards c.args.t.now c.loop.room c.loop.buf c.next-q.new.buf c.loop.q c.next-q.result
      c.next-q.ensures (l.0, omega (arith, l.1, c.loop.invariant.1)) (c.loop.invariant.2 l) (not-false _ c.if-not-q-2.false)),
)
