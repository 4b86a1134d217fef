-- `plain::places::among` meets its contract: the loop counts cell by cell. Assumes nothing.
use mathlib.Core.Path.{ap, ◌∙◌}
use mathlib.Core.Path.{◌≡◌, refl}
use Prim.Native.Nat.{ℕ}
use Prim.Native.Nat.{◌+◌}
use native.Mathlib.Omega.{arith}
use Rattle.bits.specs.Places.{from}
use Rattle.bits.specs.Bits.{count}
use Rattle.plain.specs.Plain.{plain_bits}
use Rattle.plain.proofs.Standing.{counted, few}
use Rattle.plain.proofs.places.among.Goals as goal

pub loop-j-init : goal.loop-j-init
loop-j-init c = (refl, omega arith)

pub loop-j-preserved : goal.loop-j-preserved
loop-j-preserved c = let a = c.args in let l = c.loop-j in (counted (plain_bits a.f) a.first l.j l.invariant.0 c.occupied.ensures, omega arith)

pub returns : goal.returns
returns c = let a = c.args in
    let e : c.loop-j.j ≡ a.n = omega arith in
    c.loop-j.invariant.0 ∙ ap (λ (n : ℕ). count (from a.first n) (plain_bits a.f)) e

pub overflow_add-m : goal.overflow_add-m
overflow_add-m c = let a = c.args in let l = c.loop-j in
    omega (arith, counted (plain_bits a.f) a.first l.j l.invariant.0 c.occupied.ensures, few (plain_bits a.f) a.first (l.j + 1))
