use Rattle.journal_reader.proofs.Cards.{none_has, first_within, has_by}
use Rattle.journal_reader.proofs.has_cards.Goals as goal

pub returns-then-last_size-eq0 : goal.returns-then-last_size-eq0
returns-then-last_size-eq0 c = none_has c.args.q c.args.buf.now c.last_size.ensures c.if-last_size-eq0.true

pub bounds-buf-q : goal.bounds-buf-q
bounds-buf-q c = first_within c.args.q c.args.buf.now c.last_size.ensures c.if-last_size-eq0.false

pub returns : goal.returns
returns c = has_by c.args.q c.args.buf.now c.last_size.ensures c.if-last_size-eq0.false
