-- `plain::belts::available` meets its contract. Assumes nothing.
use mathlib.Core.Path.{ap, ◌∙◌}
use native.Mathlib.Omega.{arith}
use Rattle.bits.specs.Bits.{bit}
use Rattle.plain.specs.Plain.{plain_bits}
use Rattle.plain.proofs.Ranges.{belts_row}
use Rattle.plain.proofs.Asking.{all_available}
use Rattle.plain.proofs.belts.available.Goals as goal

pub shuttle-requires : goal.shuttle-requires
shuttle-requires c = let r = belts_row c.args.row c.args.mask c.requires in (omega arith, omega arith, r.0, r.1)

pub shuttle-requires-2 : goal.shuttle-requires-2
shuttle-requires-2 c = let r = belts_row c.args.row c.args.mask
    c.requires in (omega arith, omega arith, r.0, r.1)

pub returns : goal.returns
returns c = let a = c.args in
    all_available a.row a.mask (plain_bits a.f) c.requires
    c.names.ensures c.shuttle.ensures
    (c.names-2.ensures ∙ ap (bit a.mask) c.last_belt.ensures)
    c.shuttle-2.ensures c.names-3.ensures c.lift_at.ensures
