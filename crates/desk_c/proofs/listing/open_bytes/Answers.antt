-- `desk_c::listing::open_bytes` meets its contract: the set behind four bytes. Assumes nothing.
use Rattle.desk_c.proofs.Rooms.{open_laid}
use Rattle.wire.proofs.Parts.{set_filled}
use native.Mathlib.Omega.{arith}
use borrow.Author.Rules.{rules}
use Rattle.desk_c.proofs.listing.open_bytes.Goals as goal

pub returns : goal.returns
returns c = let o = c.args.o in open_laid o c.copy.new.room (omega arith) (set_filled o.set c.copy.new.room (search rules) (c.copy.ensures.all (search rules)).1)
