use mathlib.Core.Path.{ap, ◌∙◌}
use mathlib.Core.Bool.{not}
use Rattle.bits.proofs.Least.{start, turn}
use Rattle.drawing.proofs.Sixteen.{not_all, one_more, all_are}
use Rattle.drawing.proofs.digits.all_digits.Goals as goal

pub loop-j-init : goal.loop-j-init
loop-j-init c = start _ _

pub returns-then-is_none : goal.returns-then-is_none
returns-then-is_none c =
    not_all c.args.held.now.count c.args.held.now.bytes
    c.loop-j.j c.digit_of.ensures c.loop-j-test.true (c.is_none.ensures ∙ ap not c.if-is_none.true)

pub loop-j-preserved : goal.loop-j-preserved
loop-j-preserved c =
    turn c.loop-j.invariant c.loop-j-test.true
    (one_more c.args.held.now.count c.args.held.now.bytes
    c.loop-j.j c.digit_of.ensures (c.is_none.ensures ∙ ap not c.if-is_none.false))

pub returns : goal.returns
returns c = all_are c.args.held.now.count c.args.held.now.bytes c.loop-j.invariant c.loop-j-test.false
