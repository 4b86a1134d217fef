use native.Mathlib.Omega.{arith}
use lib.Seq.{length-take-le}
use mathlib.Core.Path.{refl, sym}
use Rattle.report_c.proofs.Rooms.{text_short, text_written}
use Rattle.report_c.proofs.put.Goals as goal

pub returns-then-out-text : goal.returns-then-out-text
returns-then-out-text c = text_short _ _ _ c.requires c.if-out-text.true c.say.ensures

pub slice_bounds-copy-end : goal.slice_bounds-copy-end
slice_bounds-copy-end c = sym (length-take-le _ _ c.requires)

pub returns : goal.returns
returns c = text_written _ _ _ c.requires c.if-out-text.false c.say-2.ensures refl (c.copy.ensures.all (rw (length-take-le _ _ c.requires) (omega arith))).1
