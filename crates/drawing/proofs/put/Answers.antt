use mathlib.Core.List.{List}
use mathlib.Core.Path.{ap, ◌∙◌}
use Prim.Native.Nat.{ℕ}
use Rattle.bits.specs.Bits.{bit}
use Rattle.drawing.specs.Private.{drawn_at}
use Rattle.drawing.proofs.Tables.{fill_starts, fills, fill_ends}
use Rattle.drawing.proofs.put.Goals as goal

pub loop-t-init : goal.loop-t-init
loop-t-init c = fill_starts _ _ _

pub loop-t-preserved : goal.loop-t-preserved
loop-t-preserved c =
    fills 0 c.loop-t.invariant c.loop-t-test.true c.requires
    (c.drawn_byte.ensures ∙ ap (λ (g : List (List ℕ)). drawn_at c.args.apart g (bit c.args.image) c.args.lift c.loop-t.t)
    c.grid_of-g.ensures)

pub returns : goal.returns
returns c = fill_ends c.loop-t.invariant c.loop-t-test.false
