-- `engine::swift::rises` meets its contract. Assumes nothing.
use Rattle.engine.proofs.Shortcuts.{lift_told_lem}
use Rattle.engine.proofs.swift.rises.Goals as goal

pub returns : goal.returns
returns c = λ b. let g = c.args in lift_told_lem g.x g.r c.runs_lift.ensures c.height_is.ensures c.height_is-2.ensures b
