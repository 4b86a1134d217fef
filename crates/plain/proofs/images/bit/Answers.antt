-- `plain::images::bit` meets its contract, bit by bit. Assumes nothing.
use mathlib.Core.Bool.{true, false}
use Prim.Native.Nat.{◌-◌}
use native.Mathlib.Omega.{arith}
use Rattle.plain.proofs.Standing.{cell_bit, slot_bit}
use Rattle.plain.proofs.Imaging.{height_bit, car_bit, coming_bit, going_bit, no_bit}
use Rattle.plain.proofs.images.bit.Goals as goal

pub returns-then-k-lt40 : goal.returns-then-k-lt40
returns-then-k-lt40 c = cell_bit c.args.f c.args.k c.if-k-lt40.true

pub returns-then-k-lt52 : goal.returns-then-k-lt52
returns-then-k-lt52 c = slot_bit c.args.f (c.args.k - 40) c.args.k (omega arith) (omega arith)

pub returns-in-52 : goal.returns-in-52
returns-in-52 c = car_bit c.args.f c.in-52.is

pub returns-in-53 : goal.returns-in-53
returns-in-53 c = height_bit c.args.f false c.in-53.is c.height_digit.ensures

pub returns-in-54 : goal.returns-in-54
returns-in-54 c = height_bit c.args.f true c.in-54.is c.height_digit-in-54.ensures

pub returns-in-55 : goal.returns-in-55
returns-in-55 c = coming_bit c.args.f c.in-55.is

pub returns-in-56 : goal.returns-in-56
returns-in-56 c = going_bit c.args.f c.in-56.is

pub returns-in_default : goal.returns-in_default
returns-in_default c = no_bit c.args.f (omega arith)
