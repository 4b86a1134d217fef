-- `station::held::lifts` meets its contract, by the variant. Assumes nothing.
use Rattle.station.proofs.held.lifts.Goals as goal

pub returns-in-Belts : goal.returns-in-Belts
returns-in-Belts c = rw c.in-Belts.is
