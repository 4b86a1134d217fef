-- `plain::belts::at_end` meets its contract: the loop goes over the row from its end (proofs/Spans.antt). Assumes nothing.
use mathlib.Core.Path.{◌∙◌}
use native.Mathlib.Omega.{arith}
use Rattle.plain.specs.Plain.{plain_bits}
use Rattle.plain.proofs.Spans.{counting_starts, counts, counting_ends, takes_one, cell_below, end_count}
use Rattle.plain.proofs.belts.at_end.Goals as goal

pub loop-j-init : goal.loop-j-init
loop-j-init c = counting_starts _ _ _ _ _

pub from_end-cell-requires : goal.from_end-cell-requires
from_end-cell-requires c = omega (arith, c.width-width.ensures)

pub occupied-requires : goal.occupied-requires
occupied-requires c = let a = c.args in let k = c.loop-j.j in omega (
  arith,
  c.from_end-cell.ensures,
  cell_below a.row a.toward k
      (omega (arith, c.width-width.ensures)),
)

pub loop-j-preserved : goal.loop-j-preserved
loop-j-preserved c = counts c.loop-j.invariant
    (omega (arith, c.width-width.ensures)) c.from_end-cell.ensures
    c.named.ensures c.occupied.ensures

pub overflow_sub-left : goal.overflow_sub-left
overflow_sub-left c = takes_one c.loop-j.left c.named.result

pub returns : goal.returns
returns c = let a = c.args in
    counting_ends c.loop-j.invariant (omega (arith, c.width-width.ensures)) ∙ end_count a.row a.mask a.toward
    a.n c.requires.0 (omega arith) (omega arith) (plain_bits a.f)
