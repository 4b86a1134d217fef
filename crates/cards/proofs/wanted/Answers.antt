-- `cards::wanted` meets its contract: the cars, and one more while a drive-in is under way. Assumes nothing.
use mathlib.Core.Path.{ap, ap₂, ◌∙◌}
use Prim.Native.Nat.{◌+◌}
use Rattle.bits.specs.Bits.{digit}
use Rattle.bits.proofs.Digits.{digit_lt}
use Rattle.cards.proofs.Giving.{byte, few_in, said_cars}
use native.Mathlib.Omega.{arith}
use Rattle.floor.specs.Sound.{cars_in}
use Rattle.cards.proofs.wanted.Goals as goal

pub overflow_add-result : goal.overflow_add-result
overflow_add-result c = let r = c.args.r in
    let e = c.unwrap_or.ensures ∙ said_cars c.cars.result ∙ ap cars_in c.cars.ensures in
    omega (arith, e, few_in r, byte c.bit.result, digit_lt c.bit.result)

pub returns : goal.returns
returns c =
    ap₂ ◌+◌ (c.unwrap_or.ensures ∙ said_cars c.cars.result ∙ ap cars_in c.cars.ensures)
    (byte c.bit.result ∙ ap digit c.bit.ensures)
