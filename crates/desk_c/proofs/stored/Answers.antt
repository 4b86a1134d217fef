-- `desk_c::stored` meets its contract: each part is put in its place. Assumes nothing.
use Rattle.desk_c.proofs.Rooms.{desk_laid}
use borrow.Author.Rules.{rules}
use Rattle.desk_c.proofs.stored.Goals as goal

pub returns : goal.returns
returns c = desk_laid c.args.d _ _ _ (search rules) c.station_bytes.ensures (c.copy.ensures.all (search rules)).1 c.put_numbers.ensures
