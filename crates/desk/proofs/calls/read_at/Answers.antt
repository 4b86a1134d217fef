-- `desk::calls::read_at` meets its contract: the rest of the set from the instruction's place on. Assumes nothing.
use mathlib.Core.Path.{◌∙◌}
use Rattle.desk.proofs.Reading.{read_past, read_rest}
use Rattle.desk.proofs.calls.read_at.Goals as goal

pub returns-then-i-ge-MOST : goal.returns-then-i-ge-MOST
returns-then-i-ge-MOST c = read_past _ _ c.well_formed.0.1.0.1 c.if-i-ge-MOST.true

pub returns : goal.returns
returns c =
    c.read_bytes.ensures
    ∙ read_rest _ _ c.well_formed.0.1.0.1 c.if-i-ge-MOST.false
