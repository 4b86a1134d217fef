use Rattle.desk_service.proofs.Saying.{image_short, image_none, image_many, image_cards}
use Rattle.desk_service.specs.DeskService.{desk_called, brief}
use mathlib.Core.Path.{◌∙◌, ap}
use Rattle.desk_service.proofs.kinds.pictured.Goals as goal

pub returns-then-m-n : goal.returns-then-m-n
returns-then-m-n c = ap brief c.unread.ensures ∙ image_short c.args.d c.args.m.now (rw c.byte-count.ensures at c.if-m-n.true)

pub returns-then-n-lt1 : goal.returns-then-n-lt1
returns-then-n-lt1 c = ap brief c.unread-then-n-lt1.ensures ∙ image_none c.args.d c.args.m.now (rw c.byte-count.ensures at c.if-m-n.false) (rw c.byte-count.ensures at c.if-n-lt1.true)

pub returns-then-n-gt31 : goal.returns-then-n-gt31
returns-then-n-gt31 c = ap brief c.unread-then-n-gt31.ensures ∙ image_many c.args.d c.args.m.now (rw c.byte-count.ensures at c.if-m-n.false) (rw c.byte-count.ensures at c.if-n-gt31.true)

pub returns : goal.returns
returns c = ap brief (c.called.ensures ∙ ap desk_called c.image.ensures) ∙ rw c.byte-count.ensures (image_cards c.args.d c.args.m.now (rw c.byte-count.ensures at c.if-m-n.false) c.image_of-bits.ensures c.image_of-apart.ensures c.cards_in-given.ensures (rw c.byte-count.ensures at c.if-n-lt1.false) (rw c.byte-count.ensures at c.if-n-gt31.false))
