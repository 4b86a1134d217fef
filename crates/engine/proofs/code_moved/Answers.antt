-- `engine::code_moved` meets its contract, by what the bytes say. Assumes nothing.
use Rattle.engine.proofs.Answers.{located_said, located_area, located_none, code_moved_lem, bad_moved}
use Rattle.engine.proofs.code_moved.Goals as goal

pub returns-in_default : goal.returns-in_default
returns-in_default c = bad_moved c.args.x (located_none c.args.x c.locate.ensures c.in_default.is) c.args.r

pub stepped-requires : goal.stepped-requires
stepped-requires c = located_area c.args.x c.locate.ensures _ c.in-Some.is

pub returns : goal.returns
returns c = code_moved_lem c.args.x _ (located_said c.args.x c.locate.ensures _ c.in-Some.is) c.args.r _ c.stepped.ensures
