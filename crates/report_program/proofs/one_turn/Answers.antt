-- `report_program::one_turn` meets its contract where the input has ended; what a read brought else, the check finds. Assumes nothing.
use Rattle.std.proofs.Common.{ap, ◌∙◌}
use Rattle.std.specs.declared.option.Option.TheVariants.{None}
use Rattle.std.specs.declared.result.Result.TheVariants.{Ok}
use Rattle.report_program.proofs.Turning.{turned_by, stopped_short, close_stops}
use Rattle.report_program.proofs.one_turn.Goals as goal

pub returns-in-Ok-None : goal.returns-in-Ok-None
returns-in-Ok-None c =
    let a = c.close.ensures in
    (stopped_short a.0 (close_stops _ _ _ _), turned_by _ _ _ _ (Ok None) c.read_on.ensures (c.in-Ok-None.is ∙ ap Ok c.in-Ok-None.field-0-is) a)
