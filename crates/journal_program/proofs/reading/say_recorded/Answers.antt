-- `journal_program::reading::say_recorded` meets its contract. Assumes nothing.
use Rattle.journal_program.proofs.reading.say_recorded.Goals as goal

pub read_on-requires : goal.read_on-requires
read_on-requires c = let b = c.in_ok-start.ensures in (c.requires, (b.0, b.1 c.requires.0))
