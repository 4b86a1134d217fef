-- `journal_program::older::replay_all` meets its contract: the station is the one that the bytes so far make. Assumes nothing.
use Rattle.std.proofs.Common.{ap, ◌∙◌, arith, rules}
use Rattle.std.specs.declared.result.Result.TheVariants.{Ok}
use Rattle.journal_program.proofs.Replaying.{filled, from_start}
use Rattle.journal_program.proofs.older.replay_all.Goals as goal

pub loop-init : goal.loop-init
loop-init c = rw c.begin-r.ensures (search rules, search rules, search rules, from_start)
