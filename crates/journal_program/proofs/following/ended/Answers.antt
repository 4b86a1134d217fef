-- `journal_program::following::ended` meets its contract: what was read to its end is a journal. Assumes nothing.
use Rattle.journal_program.proofs.Recorded.{stands_file}
use Rattle.journal_program.proofs.following.ended.Goals as goal

pub read_on-requires : goal.read_on-requires
read_on-requires c = let b = c.in_ok-start.ensures in (c.requires, (b.0, b.1 c.requires.0))

pub end_at-requires : goal.end_at-requires
end_at-requires c = stands_file c.in_ok-q.ensures.1
