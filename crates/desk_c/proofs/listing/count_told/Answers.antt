-- `desk_c::listing::count_told` meets its contract: refused or taken. Assumes nothing.
use mathlib.Core.Path.{sym, ◌∙◌}
use Rattle.desk_c.proofs.Rooms.{refused_count, taken_count}
use Rattle.desk_c.proofs.listing.count_told.Goals as goal

pub returns-then-number-ne0 : goal.returns-then-number-ne0
returns-then-number-ne0 c = refused_count _ _ (λ z. c.if-number-ne0.true (c.number.ensures ∙ z)) c.told.ensures

pub returns : goal.returns
returns c = taken_count _ _ (sym c.number.ensures ∙ c.if-number-ne0.false)
