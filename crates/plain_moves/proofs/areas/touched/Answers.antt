-- `plain_moves::areas::touched` meets its contract: each test is its definition. Assumes nothing.
use mathlib.Core.Bool.{◌||◌}
use mathlib.Core.Path.{ap, ap₂, ◌∙◌}
use Rattle.rules.specs.Cells.{row_named}
use Rattle.plain_moves.proofs.areas.touched.Goals as goal

pub returns : goal.returns
returns c =
    ap₂ ◌||◌ c.named.ensures (c.named-2.ensures ∙ ap (row_named c.args.mask) c.behind.ensures)
