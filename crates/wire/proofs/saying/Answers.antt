use Rattle.wire.specs.Kinds.{kinds_asked}
use Rattle.wire.specs.Reads.{read_among}
use Rattle.wire.proofs.Reading.{what_said, why_said}
use Rattle.wire.proofs.saying.Goals as goal

pub returns-in-Ok : goal.returns-in-Ok
returns-in-Ok c = what_said (read_among kinds_asked c.args.m.now) c.among.ensures c.in-Ok.is

pub returns-in-Err : goal.returns-in-Err
returns-in-Err c = why_said (read_among kinds_asked c.args.m.now) c.among.ensures c.in-Err.is
