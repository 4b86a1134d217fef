use mathlib.Core.Path.{◌≡◌}
use Prim.Native.Nat.{◌≤◌}
use Rattle.bits.specs.Places.{from}
use Rattle.bits.specs.Bits.{count}
use Rattle.plain.specs.Plain.{plain_bits}
use Rattle.plain.proofs.places.among.Given as goal

abbrev pub invariant-loop-j : goal.invariant-loop-j
invariant-loop-j l = (l.m ≡ count (from l.first l.j) (plain_bits l.f)) × (l.j ≤ l.n)
