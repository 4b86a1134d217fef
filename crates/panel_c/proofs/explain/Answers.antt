-- `panel_c::explain` meets its contract: a condition explained, in bytes. Assumes nothing.
use Rattle.panel_c.specs.Entries.{condition_bytes}
use mathlib.Core.Path.{ap, ◌∙◌}
use native.Mathlib.Omega.{arith}
use Rattle.rooms.proofs.Rooms.{as_writes}
use Rattle.panel_c.proofs.explain.Goals as goal

pub returns : goal.returns
returns c = as_writes _ _ _ (c.condition_bytes-b.ensures ∙ ap condition_bytes
    c.explained.ensures) (omega arith)
    c.say.ensures c.tell.ensures
