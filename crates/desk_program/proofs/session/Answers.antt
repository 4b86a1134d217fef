-- `desk_program::session` goes on only where a turn may: the loop keeps what its invariant says. Assumes nothing.
use native.Mathlib.Omega.{arith}
use mathlib.Core.Path.{refl}
use borrow.Author.Rules.{rules}
use Rattle.desk_program.proofs.session.Goals as goal

pub loop-init : goal.loop-init
loop-init c = (refl, refl, refl, (λ q. (omega arith, λ p. omega arith)), refl)

pub one_turn-b-requires : goal.one_turn-b-requires
one_turn-b-requires c = (c.loop.invariant.3, c.loop.invariant.4, (let i = c.loop.invariant.0 in let j = c.loop.invariant.2 in let p = c.requires.0 in omega arith, let i = c.loop.invariant.0 in let j = c.loop.invariant.2 in let p = c.requires.1 in omega arith))

pub loop-preserved : goal.loop-preserved
loop-preserved c = (search rules, search rules, search rules, (c.one_turn-b.ensures c.if-b.false).0, c.if-b.false)
