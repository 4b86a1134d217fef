use Rattle.journal_reader.proofs.Cards.{too_few, other_kind, copied, numbers_within, source_long}
use Rattle.std.proofs.Common.{rules}
use Rattle.journal_reader.proofs.numbers_after.Goals as goal

pub returns-then-last_size-lt176 : goal.returns-then-last_size-lt176
returns-then-last_size-lt176 c = too_few c.args.q c.args.buf.now c.args.was c.last_size.ensures c.if-last_size-lt176.true

pub returns-then-not-has_cards : goal.returns-then-not-has_cards
returns-then-not-has_cards c =
    other_kind c.args.q c.args.buf.now c.args.was c.last_size.ensures c.if-last_size-lt176.false c.has_cards.ensures c.if-not-has_cards.true-raw

pub overflow_add-from : goal.overflow_add-from
overflow_add-from c = let i = numbers_within c.args.q c.args.buf.now c.last_size.ensures c.if-last_size-lt176.false in search rules

pub overflow_add-from-2 : goal.overflow_add-from-2
overflow_add-from-2 c = let i = numbers_within c.args.q c.args.buf.now c.last_size.ensures c.if-last_size-lt176.false in search rules

pub slice_bounds-copy-end : goal.slice_bounds-copy-end
slice_bounds-copy-end c = let i = numbers_within c.args.q c.args.buf.now c.last_size.ensures c.if-last_size-lt176.false in search rules

pub copy-requires : goal.copy-requires
copy-requires c = let l = source_long c.args.q c.args.buf.now c.last_size.ensures c.if-last_size-lt176.false in search rules

pub returns : goal.returns
returns c =
    let l = source_long c.args.q c.args.buf.now c.last_size.ensures c.if-last_size-lt176.false in
    copied c.args.q c.args.buf.now c.args.was c.last_size.ensures c.if-last_size-lt176.false c.has_cards.ensures c.if-not-has_cards.false-raw
    (c.copy.ensures.all (search rules)).1
