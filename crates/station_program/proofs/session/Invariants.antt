use mathlib.Core.Path.{◌≡◌}
use Prim.Native.Nat.{◌<◌}
use lib.ListN.{length}
use Rattle.station_program.specs.Keeping.{StationMakes}
use Rattle.station_program.proofs.session.Given as goal

abbrev pub invariant-loop : goal.invariant-loop
invariant-loop l = (length l.buf ≡ length l.initial.buf) × (length l.out ≡ length l.initial.out) × (l.b.have < 45) × StationMakes l.b.journal
