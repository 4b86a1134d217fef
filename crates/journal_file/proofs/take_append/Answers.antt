use Rattle.journal_file.proofs.Taking.{none_whole, none_behind, a_mark, messages_in, carries_most, carries_within, messages_many, has_messages, has_none}
use Rattle.checksum.specs.Slices.{crc_by}
use borrow.Author.Rules.{rules}
use Rattle.journal_file.proofs.take_append.Goals as goal

pub returns-then-not-f : goal.returns-then-not-f
returns-then-not-f c = none_whole (crc_by c.args.t.now) _ _ _ _ c.front_of-f.ensures c.if-not-f.true c.not_taken.ensures

pub returns-then-r : goal.returns-then-r
returns-then-r c = none_behind (crc_by c.args.t.now) _ _ _ _ c.front_of-f.ensures c.if-not-f.false c.if-r.true c.not_taken-then-r.ensures

pub overflow_add-from : goal.overflow_add-from
overflow_add-from c = let h = carries_most (crc_by c.args.t.now) _ _ _ c.front_of-f.ensures c.if-not-f.false in search rules

pub overflow_add-f : goal.overflow_add-f
overflow_add-f c = let h = carries_most (crc_by c.args.t.now) _ _ _ c.front_of-f.ensures c.if-not-f.false in search rules

pub slice_bounds-take_messages-end : goal.slice_bounds-take_messages-end
slice_bounds-take_messages-end c = carries_within (crc_by c.args.t.now) _ _ _ c.front_of-f.ensures c.if-not-f.false

pub take_messages-requires : goal.take_messages-requires
take_messages-requires c = (
  carries_most (crc_by c.args.t.now) _ _ _ c.front_of-f.ensures c.if-not-f.false,
  messages_many (crc_by c.args.t.now) _ _ _ c.front_of-f.ensures c.if-not-f.false c.lead_in-from.ensures.1,
)

pub returns-in-1 : goal.returns-in-1
returns-in-1 c =
    messages_in (crc_by c.args.t.now) _ _ _ _ c.front_of-f.ensures c.if-not-f.false c.if-r.false (has_messages _ c.in-1.is) c.lead_in-from.ensures.1
    c.take_messages.ensures

pub take_mark-requires : goal.take_mark-requires
take_mark-requires c = carries_most (crc_by c.args.t.now) _ _ _ c.front_of-f.ensures c.if-not-f.false

pub returns-in_default : goal.returns-in_default
returns-in_default c =
    a_mark (crc_by c.args.t.now) _ _ _ _ c.front_of-f.ensures c.if-not-f.false c.if-r.false (has_none c.front_of-f.result.kind (search rules))
    c.take_mark.ensures
