use Rattle.desk.specs.Lines.{held_lines}
use mathlib.Core.Path.{refl}
use Rattle.desk.proofs.listing.no_lines.Goals as goal

pub returns : goal.returns
unfolding held_lines
returns c = refl
