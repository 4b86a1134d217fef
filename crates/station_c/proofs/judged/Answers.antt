-- `station_c::judged` meets its contract: the verdict tells the answer. Assumes nothing.
use Rattle.rooms.proofs.Judging.{judged_so}
use mathlib.Core.Path.{◌∙◌}
use Rattle.station_c.proofs.judged.Goals as goal

pub returns : goal.returns
returns c = c.answer_for.ensures ∙ judged_so c.args.i c.args.image c.verdict.ensures
