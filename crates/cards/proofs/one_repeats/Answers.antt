-- `cards::one_repeats` meets its contract: each element in turn (proofs/Seeking.antt). Assumes nothing.
use native.Mathlib.Omega.{arith}
use mathlib.Core.Path.{sym, ◌∙◌}
use Rattle.bits.proofs.Least.{start, turn}
use Rattle.cards.proofs.Seeking.{one_does, none_does}
use Rattle.cards.proofs.one_repeats.Goals as goal

pub loop-j-init : goal.loop-j-init
loop-j-init c = start _ _

pub repeats-requires : goal.repeats-requires
repeats-requires c = omega (arith, c.requires)

pub returns-then-repeats : goal.returns-then-repeats
returns-then-repeats c = one_does c.loop-j.invariant (omega arith) c.repeats.ensures c.if-repeats.true

pub loop-j-preserved : goal.loop-j-preserved
loop-j-preserved c = turn c.loop-j.invariant (omega arith) (sym c.repeats.ensures ∙ c.if-repeats.false)

pub returns : goal.returns
returns c = none_does c.loop-j.invariant (omega arith)
