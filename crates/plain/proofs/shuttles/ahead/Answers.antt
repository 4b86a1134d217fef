-- `plain::shuttles::ahead` meets its contract: each return is one case of the definition. Assumes nothing.
use mathlib.Core.Path.{ap}
use Prim.Native.Nat.{ℕ}
use Rattle.std.specs.declared.option.Option.TheVariants.{Some}
use Rattle.plain.specs.Private.{row_ahead}
use Rattle.plain.proofs.shuttles.ahead.Goals as goal

pub returns-then-names : goal.returns-then-names
unfolding row_ahead
returns-then-names c = rw (← c.pick.ensures, ← c.names.ensures, c.if-names.true)

pub returns-then-names-2 : goal.returns-then-names-2
unfolding row_ahead
returns-then-names-2 c = rw (← c.pick.ensures, ← c.names.ensures, c.if-names.false, ← c.names-2.ensures, c.if-names-2.true) (ap (λ (row : ℕ). Some row) c.pick-then-names-2.ensures)

pub returns-then-names-3 : goal.returns-then-names-3
unfolding row_ahead
returns-then-names-3 c = rw (← c.pick.ensures, ← c.names.ensures, c.if-names.false, ← c.names-2.ensures, c.if-names-2.false, ← c.pick-2.ensures, ← c.names-3.ensures, c.if-names-3.true)

pub returns : goal.returns
unfolding row_ahead
returns c = rw (← c.pick.ensures, ← c.names.ensures, c.if-names.false, ← c.names-2.ensures, c.if-names-2.false, ← c.pick-2.ensures, ← c.names-3.ensures, c.if-names-3.false)
