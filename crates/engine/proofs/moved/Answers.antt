-- `engine::moved` meets its contract, by the area. Assumes nothing.
use Rattle.rules.proofs.Answering.{ill_formed}
use Rattle.engine.proofs.Answers.{masked, unmasked}
use Rattle.engine.proofs.moved.Goals as goal

pub returns-in_default : goal.returns-in_default
returns-in_default c = (ill_formed c.args.i c.args.r (unmasked c.args.i c.area.ensures c.in_default.is)).1

pub stepped-requires : goal.stepped-requires
stepped-requires c = masked c.args.i c.area.ensures _ c.in-Some.is
