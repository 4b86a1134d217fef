-- `engine::verdict` meets its contract, by the area. Assumes nothing.
use mathlib.Core.Path.{◌∙◌}
use Rattle.rules.proofs.Answering.{ill_formed, is_verdict}
use Rattle.engine.proofs.Answers.{masked, unmasked}
use Rattle.engine.proofs.verdict.Goals as goal

pub returns-in_default : goal.returns-in_default
returns-in_default c = (ill_formed c.args.i c.args.r (unmasked c.args.i c.area.ensures c.in_default.is)).0

pub told-requires : goal.told-requires
told-requires c = masked c.args.i c.area.ensures _ c.in-Some.is

pub returns : goal.returns
returns c = is_verdict c.args.i c.args.r (masked c.args.i c.area.ensures _ c.in-Some.is).0 (c.verdict_by.ensures ∙ c.told.ensures)
