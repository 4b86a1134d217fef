-- `plain_station::Plain::opened` meets its contract: no mark stands, and the floor comes back. Assumes nothing.
use Rattle.plain_station.proofs.Outcomes.{opens}
use Rattle.std.proofs.Common.{rules}
use Rattle.plain_station.proofs.Plain.opened.Goals as goal

pub returns : goal.returns
returns c = opens c.args.self c.args.count
    c.args.set (search rules) c.only.ensures c.wrapping_add_u16.ensures.value
