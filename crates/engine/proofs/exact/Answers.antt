-- `engine::exact` meets its contract, by what the bytes say. Assumes nothing.
use mathlib.Core.Path.{◌∙◌}
use Rattle.engine.proofs.Answers.{located_said, located_area, located_none, code_judged, bad_judged}
use Rattle.engine.proofs.exact.Goals as goal

pub told-requires : goal.told-requires
told-requires c = located_area _ c.locate.ensures _ c.in-Some.is

pub returns-in-Some : goal.returns-in-Some
returns-in-Some c =
    c.judged_as.ensures
    ∙ code_judged _ _ (located_said _ c.locate.ensures _ c.in-Some.is) c.args.r _ (located_area _ c.locate.ensures _ c.in-Some.is).1 _ (c.verdict_by.ensures ∙ c.told.ensures)

pub returns-in-None : goal.returns-in-None
returns-in-None c = c.judged_as-in-None.ensures ∙ bad_judged _ (located_none _ c.locate.ensures c.in-None.is) c.args.r
