use Rattle.desk_service.specs.Private.{cards_read}
use Rattle.codec.specs.Fours.{fours_in}
use mathlib.Core.Path.{◌∙◌, ap}
use Rattle.desk_service.proofs.kinds.cards_in.Goals as goal

pub returns : goal.returns
unfolding cards_read
returns c = c.given.ensures ∙ ap (fours_in 31) c.padded.ensures
