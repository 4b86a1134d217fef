-- `week::drive_on` meets its contract: the masks name the two bits. Assumes nothing.
use mathlib.Core.Path.{sym, ◌∙◌}
use Rattle.bits.specs.Bits.{bit}
use Rattle.bits.specs.Places.{places}
use Rattle.week.proofs.Telling.{one_set}
use Rattle.week.proofs.drive_on.Goals as goal

pub returns-then-all : goal.returns-then-all
unfolding places
returns-then-all c = let r = c.args.r in rw (sym (one_set (bit r 55) c.all.ensures) ∙ c.if-all.true)

pub returns-then-all-2 : goal.returns-then-all-2
unfolding places
returns-then-all-2 c = let r = c.args.r in rw (sym (one_set (bit r 55) c.all.ensures) ∙ c.if-all.false, sym (one_set (bit r 56) c.all-2.ensures) ∙ c.if-all-2.true)

pub returns : goal.returns
unfolding places
returns c = let r = c.args.r in rw (sym (one_set (bit r 55) c.all.ensures) ∙ c.if-all.false, sym (one_set (bit r 56) c.all-2.ensures) ∙ c.if-all-2.false)
