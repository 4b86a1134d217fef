-- `plain::places::lift_at` meets its contract, height by height. Assumes nothing.
use Rattle.plain.proofs.Standing.{at_height}
use Rattle.plain.proofs.places.lift_at.Goals as goal

pub returns-in-Street : goal.returns-in-Street
returns-in-Street c = at_height c.args.f c.args.height c.requires c.in-Street.is

pub returns-in-Rotation : goal.returns-in-Rotation
returns-in-Rotation c = at_height c.args.f c.args.height c.requires c.in-Rotation.is

pub returns-in-Basement : goal.returns-in-Basement
returns-in-Basement c = at_height c.args.f c.args.height c.requires c.in-Basement.is
