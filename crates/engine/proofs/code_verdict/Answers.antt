-- `engine::code_verdict` meets its contract, by what the bytes say. Assumes nothing.
use mathlib.Core.Path.{◌∙◌}
use Rattle.engine.proofs.Answers.{located_said, located_area, located_none, code_told, bad_told}
use Rattle.engine.proofs.code_verdict.Goals as goal

pub returns-in_default : goal.returns-in_default
returns-in_default c = bad_told c.args.x (located_none c.args.x c.locate.ensures c.in_default.is) c.args.r

pub told-requires : goal.told-requires
told-requires c = located_area c.args.x c.locate.ensures _ c.in-Some.is

pub returns : goal.returns
returns c = code_told c.args.x _ (located_said c.args.x c.locate.ensures _ c.in-Some.is) c.args.r _ (c.verdict_by.ensures ∙ c.told.ensures)
