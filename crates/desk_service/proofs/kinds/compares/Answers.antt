use Rattle.desk_service.specs.DeskService.{compare_said, reply_read}
use Rattle.desk_wire.specs.DeskKinds.{compare_kind}
use Rattle.desk_wire.specs.DeskReads.{read_shape}
use Rattle.desk_service.proofs.Saying.{compare_short, compare_many, image_compared, as_reply, as_brief}
use Rattle.desk_service.proofs.kinds.compares.Goals as goal

pub returns-then-m-n : goal.returns-then-m-n
returns-then-m-n c = as_brief c.args.room.now c.unread.ensures (compare_short c.args.d c.args.m.now (rw c.byte-count.ensures at c.if-m-n.true)) c.briefly.ensures

pub returns-then-n-gt31 : goal.returns-then-n-gt31
returns-then-n-gt31 c = as_brief c.args.room.now c.unread-then-n-gt31.ensures (compare_many c.args.d c.args.m.now (rw c.byte-count.ensures at c.if-m-n.false) (rw c.byte-count.ensures at c.if-n-gt31.true)) c.briefly-then-n-gt31.ensures

pub returns : goal.returns
returns c = as_reply {a = compare_said c.args.d (record { bits = c.image_of-bits.result; apart = c.image_of-apart.result }) c.byte-count.result c.cards_in-given.result} {b = reply_read c.args.d (read_shape compare_kind c.args.m.now)} c.args.room.now c.changes.ensures (rw c.byte-count.ensures (image_compared c.args.d c.args.m.now (rw c.byte-count.ensures at c.if-m-n.false) c.image_of-bits.ensures c.image_of-apart.ensures c.cards_in-given.ensures (rw c.byte-count.ensures at c.if-n-gt31.false)))
