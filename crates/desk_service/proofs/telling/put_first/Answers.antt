use lib.Seq.{length-take-le}
use mathlib.Core.Path.{sym}
use Rattle.desk_service.proofs.telling.put_first.Goals as goal

pub slice_bounds-put-end : goal.slice_bounds-put-end
slice_bounds-put-end c = sym (length-take-le c.args.n c.args.src.now c.requires)
