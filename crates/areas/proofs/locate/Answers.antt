-- `areas::locate` meets its contract, by what the bytes say. Assumes nothing.
use mathlib.Core.Path.{refl, sym, ap, ◌∙◌}
use Rattle.std.specs.declared.option.Option.TheVariants.{Some}
use Rattle.areas.proofs.Areas.{located_good, located_bad}
use Rattle.areas.proofs.locate.Goals as goal

pub returns-in-Some : goal.returns-in-Some
returns-in-Some c = ap Some c.with_area.ensures ∙ located_good c.args.x c.in-Some.i _ (sym c.read.ensures ∙ c.in-Some.is) refl

pub returns-in-None : goal.returns-in-None
returns-in-None c = located_bad c.args.x (sym c.read.ensures ∙ c.in-None.is)
