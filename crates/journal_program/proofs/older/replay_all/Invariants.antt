use Rattle.std.proofs.Common.{◌≡◌, ◌<◌, length}
use Rattle.journal.specs.Journal.{Journaled}
use Rattle.journal_program.proofs.older.replay_all.Given as goal

abbrev pub invariant-loop : goal.invariant-loop
invariant-loop l = (length l.buf ≡ length l.initial.buf) × (length l.room ≡ length l.initial.room) × (l.r.have < 45) × Journaled l.r.station l.r.whole
