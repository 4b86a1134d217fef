-- `plain_moves::shuttles::row_from` meets its contract: each return is one case of the definition (proofs/Finding.antt). Assumes nothing.
use mathlib.Core.Path.{sym, ap, ◌∙◌}
use Prim.Native.Nat.{ℕ}
use borrow.Author.Tests.{eq-eqb, ne_eqb}
use Rattle.std.specs.declared.option.Option.{Option}
use Rattle.plain_moves.specs.Private.{cell_bits, is_row, car_at}
use Rattle.plain_moves.proofs.Finding.{row_stays, row_comes}
use Rattle.plain_moves.proofs.shuttles.row_from.Goals as goal
use Rattle.plain_moves.proofs.shuttles.row_from.Goals.{in_default-via-in-Some+else-same-row, in_default-via-in_default}

pub returns-in-Some : goal.returns-in-Some
returns-in-Some c =
    let a = c.args in
    row_stays a.side (cell_bits a.old.now) a.row a.from a.new
    (ap (λ (o : Option ℕ). is_row o a.row) c.in-Some.is ∙ eq-eqb _ _ c.if-same-row.true)

pub returns-in_default : goal.returns-in_default
returns-in_default c =
    let a = c.args in
    let car = car_at a.side (cell_bits a.old.now) in
    elim c.in_default.branch [
      | in_default-via-in-Some+else-same-row w ↦
          row_comes a.side (cell_bits a.old.now) a.row a.from a.new
          (ap (λ (o : Option ℕ). is_row o a.row) w.in-Some.is ∙ ne_eqb _ _ w.if-same-row.false) (c.car_at.ensures ∙ ap car (w.from-is ∙ sym w.in-Some.is)) c.put.ensures
      | in_default-via-in_default w ↦
          row_comes a.side (cell_bits a.old.now) a.row a.from a.new
          (ap (λ (o : Option ℕ). is_row o a.row) w.in_default.is) (c.car_at.ensures ∙ ap car w.from-is) c.put.ensures
    ]
