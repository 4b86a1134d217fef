-- `plain_moves::shuttles::moved` meets its contract: the arrays that are made are those of the next record (proofs/Moving.antt). Assumes nothing.
use mathlib.Core.Bool.{Bool, cond}
use mathlib.Core.Path.{sym, ap, ◌∙◌}
use borrow.Author.Tests.{eq-eqb, ne_eqb}
use Rattle.bits.proofs.Cases.{true→T}
use Rattle.rules.specs.declared.Instruction.TheVariants.{Shuttles}
use Rattle.plain.specs.Plain.{plain_bits}
use Rattle.plain.proofs.Ranges.{shuttles_ranges}
use Rattle.plain_moves.specs.Private.{cells_after}
use Rattle.plain_moves.proofs.Floors.{sized}
use Rattle.plain_moves.proofs.Moving.{well, shuttles_moved}
use Rattle.plain_moves.proofs.shuttles.moved.Goals as goal

pub slots_after-slots-requires : goal.slots_after-slots-requires
slots_after-slots-requires c =
    let a = c.args in
    let b = shuttles_ranges a.side a.mask a.orientation a.toward
    (true→T (well (Shuttles a.side a.mask a.orientation a.toward) (plain_bits a.f) c.requires)) in
    (b.0, b.2, b.1)

pub cells_after-cells-requires : goal.cells_after-cells-requires
cells_after-cells-requires c =
    let a = c.args in
    (shuttles_ranges a.side a.mask a.orientation a.toward
    (true→T (well (Shuttles a.side a.mask a.orientation a.toward) (plain_bits a.f) c.requires))).0

pub returns-then-orientation-eq0 : goal.returns-then-orientation-eq0
returns-then-orientation-eq0 c =
    let a = c.args in
    let g = c.well_formed in
    shuttles_moved a.f (sized a.f g.0.1.1.0.1.0.1 g.0.1.1.1.0.1.0.1) a.side a.mask a.orientation a.toward
    c.requires
    c.slots_after-slots.ensures
    (c.cells_after-cells.ensures ∙ ap (λ (b : Bool). cond b (cells_after a.side a.mask a.toward a.f.cells 3) a.f.cells)
    (sym (eq-eqb _ _ c.if-orientation-eq0.true)))

pub returns : goal.returns
returns c =
    let a = c.args in
    let g = c.well_formed in
    shuttles_moved a.f (sized a.f g.0.1.1.0.1.0.1 g.0.1.1.1.0.1.0.1) a.side a.mask a.orientation a.toward
    c.requires
    c.slots_after-slots.ensures
    (ap (λ (b : Bool). cond b (cells_after a.side a.mask a.toward a.f.cells 3) a.f.cells) (sym (ne_eqb _ _ c.if-orientation-eq0.false)))
