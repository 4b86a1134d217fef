use Rattle.desk.proofs.Laying.{bytes_laid}
use Rattle.desk.proofs.listing.line_bytes.Goals as goal

pub returns : goal.returns
returns c = bytes_laid _ _ c.four_bytes-four.ensures
