-- `plain::images::height_digit` meets its contract, height by height. Assumes nothing.
use Rattle.plain.proofs.Imaging.{street_digit, rotation_digit, basement_digit}
use Rattle.plain.proofs.images.height_digit.Goals as goal

pub returns-in-Street : goal.returns-in-Street
returns-in-Street c = street_digit c.in-Street.is c.args.high

pub returns-in-Rotation : goal.returns-in-Rotation
returns-in-Rotation c = rotation_digit c.in-Rotation.is c.args.high

pub returns-in-Basement : goal.returns-in-Basement
returns-in-Basement c = basement_digit c.in-Basement.is c.args.high
