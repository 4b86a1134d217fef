use Rattle.std.proofs.Common.{◌≡◌, length}
use Rattle.journal_program.specs.Telling.{ReadsOn}
use Rattle.journal_program.proofs.reading.read_on.Given as goal

abbrev pub invariant-loop : goal.invariant-loop
invariant-loop l = (length l.buf ≡ length l.initial.buf) × (length l.room ≡ length l.initial.room) × ReadsOn l.asked l.q l.buf
