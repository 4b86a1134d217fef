-- `plain::tilts::tilt_condition` meets its contract, for each orientation. Assumes nothing.
use mathlib.Core.Path.{◌≡◌, sym, ap, ◌∙◌}
use Prim.Native.Nat.{ℕ}
use native.Mathlib.Omega.{arith}
use Rattle.rules.specs.declared.Instruction.TheVariants.{Tilt}
use Rattle.rules.specs.Rules.{clauses}
use Rattle.plain.specs.Plain.{plain_bits}
use Rattle.plain.specs.Conditions.{condition_in}
use Rattle.plain.proofs.Ranges.{tilt_ranges}
use Rattle.plain.proofs.tilts.tilt_condition.Goals as goal

pub from_lowered-requires : goal.from_lowered-requires
from_lowered-requires c = let a = c.args in let r = tilt_ranges a.side a.row a.orientation c.requires in (r.0, r.2)

pub returns-then-orientation-eq0 : goal.returns-then-orientation-eq0
returns-then-orientation-eq0 c = let a = c.args in
    c.from_lowered.ensures ∙ ap (λ (o : ℕ). condition_in (clauses (Tilt a.side a.row o)) a.c (plain_bits a.f)) (sym c.if-orientation-eq0.true)

pub from_tilted-requires : goal.from_tilted-requires
from_tilted-requires c = let a = c.args in let r = tilt_ranges a.side a.row a.orientation c.requires in (r.0, r.1, r.2)

pub returns : goal.returns
returns c = let a = c.args in
    let r = tilt_ranges a.side a.row a.orientation c.requires in
    let one : 1 ≡ a.orientation = omega (arith, c.if-orientation-eq0.false, r.3) in
    c.from_tilted.ensures ∙ ap (λ (o : ℕ). condition_in (clauses (Tilt a.side a.row o)) a.c (plain_bits a.f)) one
