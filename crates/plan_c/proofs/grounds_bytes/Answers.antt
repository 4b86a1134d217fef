-- `plan_c::grounds_bytes` meets its contract: sixteen bytes, and two behind them. Assumes nothing.
use mathlib.Core.Path.{refl, ◌∙◌}
use Rattle.plan_c.proofs.grounds_bytes.Goals as goal

pub returns : goal.returns
returns c = rw (c.copy_from_slice.ensures.after ∙ c.image_in.ensures) refl
