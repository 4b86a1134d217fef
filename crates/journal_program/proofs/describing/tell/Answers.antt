-- `journal_program::describing::tell` meets its contract. Assumes nothing.
use Rattle.journal_program.proofs.describing.tell.Goals as goal

pub say_rest-requires : goal.say_rest-requires
say_rest-requires c = let b = c.in_ok-start.ensures in (c.requires, (b.0, b.1 c.requires.0))
