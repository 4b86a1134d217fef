-- `desk_c::listing::tell_first` meets its contract: the first bytes of a run. Assumes nothing.
use lib.Seq.{length-take-le}
use mathlib.Core.Path.{sym}
use Rattle.desk_c.proofs.listing.tell_first.Goals as goal

pub slice_bounds-tell-end : goal.slice_bounds-tell-end
slice_bounds-tell-end c = sym (length-take-le 248 c.args.run.now c.requires)
