-- `plan::asked` meets its contract: the turn and the set that is left are the outcome. Assumes nothing.
use Rattle.std.proofs.Common.{◌∙◌}
use Rattle.station.proofs.Turns.{rebuilt, kept_requested}
use Rattle.plan.proofs.Walking.{padded}
use Rattle.plan.proofs.asked.Goals as goal

pub returns : goal.returns
returns c =
    let a = c.args in
    c.after.ensures ∙ rw c.set_of-set.ensures
    (rebuilt a.s _ (rw c.set_of-set.ensures at c.requested-t.ensures)
    (kept_requested a.s _ a.count _ (padded a.bytes.now a.count c.requires)))
