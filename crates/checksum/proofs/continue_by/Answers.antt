use mathlib.Core.Path.{ap, ◌∙◌}
use mathlib.Core.List.{List}
use Prim.Native.Nat.{ℕ}
use Rattle.checksum.specs.Checksum.{inverted}
use Rattle.checksum.specs.Slices.{over_fours}
use Rattle.checksum.proofs.Promises.{by_few, by_enough}
use Rattle.checksum.proofs.continue_by.Goals as goal

pub returns-in-Ok : goal.returns-in-Ok
returns-in-Ok c =
    let x = c.args in
    let whole = rw c.in-Ok.is at c.try_from.ensures.1 in
    by_enough x.t.now x.c x.bytes.now whole.long
    (c.over_fours.ensures ∙ ap (λ (t : List ℕ). over_fours t (inverted x.c) x.bytes.now) whole.same)

pub returns-in-Err : goal.returns-in-Err
returns-in-Err c = let x = c.args in by_few x.t.now x.c x.bytes.now (rw c.in-Err.is at c.try_from.ensures.1)
