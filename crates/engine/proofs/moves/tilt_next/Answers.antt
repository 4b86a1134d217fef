-- `engine::moves::tilt_next` meets its contract, by orientation. Assumes nothing.
use mathlib.Core.Bool.{Bool, cond}
use mathlib.Core.Path.{ap}
use Rattle.engine.proofs.Masking.{tilt_moved}
use Prim.Native.Nat.{◌/◌}
use Rattle.rows.specs.Private.{tilted_in}
use borrow.Author.Tests.{eq-eqb, ne_eqb}
use Rattle.engine.proofs.moves.tilt_next.Goals as goal

pub returns-then-orientation-eq0 : goal.returns-then-orientation-eq0
returns-then-orientation-eq0 c = tilt_moved c.args.r c.args.a c.args.orientation _ (ap (λ (b : Bool). cond b (tilted_in c.args.a) (tilted_in c.args.a / 64)) (eq-eqb _ 0 c.if-orientation-eq0.true))

pub returns : goal.returns
returns c = tilt_moved c.args.r c.args.a c.args.orientation _ (ap (λ (b : Bool). cond b (tilted_in c.args.a) (tilted_in c.args.a / 64)) (ne_eqb _ 0 c.if-orientation-eq0.false))
