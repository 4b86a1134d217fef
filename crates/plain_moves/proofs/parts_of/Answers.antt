-- `plain_moves::parts_of` meets its contract: the parts are those of a floor with that image (proofs/Sharing.antt). Assumes nothing.
use mathlib.Core.Path.{◌∙◌}
use Rattle.plain_moves.proofs.Sharing.{number_parts}
use Rattle.plain_moves.proofs.parts_of.Goals as goal

pub returns : goal.returns
returns c = c.parts_in.ensures ∙ number_parts c.args.n c.of_image.ensures
