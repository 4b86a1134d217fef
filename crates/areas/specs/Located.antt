-- What five bytes say, and its area as a mask. Assumes nothing.
use Rattle.bits.specs.Bits.{image}
use Rattle.rules.specs.declared.Code.{Code}
use Rattle.rules.specs.Rules.{area}
use Rattle.rules.specs.Codes.{read_code}
use Rattle.rules.specs.Verdicts.{on_code}
use Rattle.areas.specs.declared.Located.{Located}
use Rattle.std.specs.declared.option.Option.{Option}
use Rattle.std.specs.declared.option.Option.TheVariants.{Some, None}

-- bytes that say no instruction have no area
unfoldable pub locate : Code → Option Located
locate x = on_code (λ i. Some (record { instruction = i; area = image (area i) })) None (read_code x)
