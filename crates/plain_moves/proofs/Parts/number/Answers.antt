-- `plain_moves::Parts::number` meets its contract: a floor that has these parts has this image (proofs/Sharing.antt). Assumes nothing.
use mathlib.Core.Path.{ap, ◌∙◌}
use Rattle.bits.specs.Bits.{image}
use Rattle.plain.specs.declared.Floor.{Floor}
use Rattle.plain.specs.Plain.{plain_bits}
use Rattle.plain_moves.proofs.Sharing.{number_is}
use Rattle.plain_moves.proofs.Parts.number.Goals as goal

pub returns : goal.returns
returns c = c.image.ensures ∙ ap (λ (f : Floor). image (plain_bits f)) c.floor.ensures ∙ number_is c.args.self
