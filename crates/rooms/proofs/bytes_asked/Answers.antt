-- `rooms::bytes_asked` meets its contract. Assumes nothing.
use Rattle.rooms.proofs.Padding.{none_asked, five_asked}
use Rattle.rooms.proofs.bytes_asked.Goals as goal

pub returns-then-count-gt-MOST : goal.returns-then-count-gt-MOST
returns-then-count-gt-MOST c = none_asked _ c.if-count-gt-MOST.true

pub returns : goal.returns
returns c = five_asked _ c.if-count-gt-MOST.false
