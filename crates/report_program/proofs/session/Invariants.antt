use Rattle.std.proofs.Common.{◌≡◌, false, ◌<◌, length}
use Rattle.report_program.proofs.Turning.{SoFar}
use Rattle.report_program.proofs.session.Given as goal

abbrev pub invariant-loop-reads : goal.invariant-loop-reads
invariant-loop-reads l = (length l.buf ≡ length l.initial.buf) × (l.t.have < 45) × (l.t.stop ≡ false) × SoFar l.counts l.t l.buf
