-- `engine::whole` meets its contract, variant by variant. Assumes nothing.
use Rattle.engine.proofs.Ruling.{belts_in}
use Rattle.rows.specs.Private.{whole}
use mathlib.Core.Bool.{not}
use mathlib.Core.Path.{sym, ap, ◌∙◌}
use Rattle.engine.proofs.whole.Goals as goal

pub gaps-requires : goal.gaps-requires
gaps-requires c = (belts_in c.args.i c.requires c.in-Belts.is).0

pub returns-in-Belts : goal.returns-in-Belts
returns-in-Belts c = ap not c.gaps.ensures ∙ ap whole (sym c.in-Belts.is)
