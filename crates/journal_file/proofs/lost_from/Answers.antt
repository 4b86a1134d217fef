use Rattle.journal_file.proofs.Zeros.{from_start, from_sector}
use Rattle.journal_file.proofs.lost_from.Goals as goal

pub returns-then-n-eq0 : goal.returns-then-n-eq0
returns-then-n-eq0 c = from_start _ _ c.if-n-eq0.true

pub returns : goal.returns
returns c = from_sector _ _ c.if-n-eq0.false
