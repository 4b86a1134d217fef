-- `plain_moves::shuttles::slots_after` meets its contract: the loop makes a row at a time (proofs/Finding.antt). Assumes nothing.
use mathlib.Core.Path.{refl, ap, ◌∙◌}
use native.Mathlib.Omega.{arith}
use Rattle.plain_moves.specs.Private.{slots_after, some_row}
use Rattle.plain_moves.proofs.Finding.{source_row, slots_more, three_slots}
use Rattle.plain_moves.proofs.shuttles.slots_after.Goals as goal

pub loop-row-init : goal.loop-row-init
unfolding slots_after
loop-row-init c = (refl, (omega arith), (omega arith))

pub slot-at-requires : goal.slot-at-requires
slot-at-requires c = let p = c.requires in (p.0, p.1, (omega arith), (omega arith))

pub source-from-requires : goal.source-from-requires
source-from-requires c = ((omega arith), (omega arith))

pub slot_from-requires : goal.slot_from-requires
slot_from-requires c =
    let p = c.requires in
    let a = c.args in
    (p.0, p.1, (ap some_row c.source-from.ensures ∙ source_row a.mask a.toward c.loop-row.row p.2 (omega arith) (omega arith)))

pub overflow_cast-new : goal.overflow_cast-new
overflow_cast-new c = let p = c.requires in omega (arith, c.slot-at.ensures)

pub bounds-new-at : goal.bounds-new-at
bounds-new-at c = let p = c.requires in omega (arith, c.slot-at.ensures)

pub loop-row-preserved : goal.loop-row-preserved
loop-row-preserved c =
    let a = c.args in
    let v = c.loop-row.invariant in (
      slots_more a.side a.mask a.orientation a.toward a.slots v.1 v.0 c.slot-at.ensures c.source-from.ensures
          c.slot_from.ensures,
      (omega arith),
      (omega arith),
    )

pub returns : goal.returns
returns c =
    let a = c.args in
    let v = c.loop-row.invariant in
    three_slots a.side a.mask a.orientation a.toward a.slots v.0 (omega arith)
