-- `cards::bears` meets its contract: in row 1 by the parity of the cells below (proofs/Giving.antt). Assumes nothing.
use mathlib.Core.Path.{ap, ◌∙◌}
use native.Mathlib.Omega.{arith}
use Rattle.bits.specs.Bits.{bit}
use Rattle.cards.proofs.Giving.{one_shifted, bears_half, bears_whole}
use Rattle.cards.proofs.bears.Goals as goal

pub overflow_sub-j : goal.overflow_sub-j
overflow_sub-j c = one_shifted _ (omega arith)

pub returns-then-j-lt20 : goal.returns-then-j-lt20
returns-then-j-lt20 c =
    let a = c.args in
    bears_half (bit a.r) a.j (c.bit-on.ensures ∙ ap (bit a.r) c.place_of.ensures) c.if-j-lt20.true c.even.ensures

pub returns : goal.returns
returns c = let a = c.args in
    bears_whole (bit a.r) a.j (c.bit-on.ensures ∙ ap (bit a.r) c.place_of.ensures) c.if-j-lt20.false
