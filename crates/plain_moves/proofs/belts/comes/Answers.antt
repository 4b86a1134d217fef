-- `plain_moves::belts::comes` meets its contract: each return is one case of the definition (proofs/Finding.antt). Assumes nothing.
use mathlib.Core.Path.{sym}
use native.Mathlib.Omega.{arith}
use Rattle.bits.proofs.Cases.{passed, failed}
use Rattle.plain.proofs.Ranges.{short_step}
use Rattle.plain_moves.specs.Private.{cell_bits}
use Rattle.plain_moves.proofs.Finding.{named_cell, stays, comes, none_comes, nowhere_comes}
use Rattle.plain_moves.proofs.belts.comes.Goals as goal

pub returns-then-not-named : goal.returns-then-not-named
returns-then-not-named c =
    let a = c.args in
    stays a.row a.mask a.toward a.size (cell_bits a.old.now) a.cell (failed c.named.ensures c.if-not-named.true-raw)

pub behind-requires : goal.behind-requires
behind-requires c = let a = c.args in
    (c.requires, (omega (arith, c.step.ensures, short_step a.row a.size)))

pub bounds-old-from : goal.bounds-old-from
bounds-old-from c = let a = c.args in
    named_cell a.row a.mask c.in-Some.from (sym c.if-named.ensures)

pub returns-in-Some : goal.returns-in-Some
returns-in-Some c =
    let a = c.args in
    comes a.row a.mask a.toward a.size (cell_bits a.old.now) a.cell c.step.ensures c.behind.ensures
    (passed c.named.ensures c.if-not-named.false-raw) c.in-Some.is (sym c.if-named.ensures)

pub returns-in_default : goal.returns-in_default
returns-in_default c =
    let a = c.args in
    none_comes a.row a.mask a.toward a.size (cell_bits a.old.now) a.cell c.step.ensures c.behind.ensures
    (passed c.named.ensures c.if-not-named.false-raw) c.in-Some.is (sym c.if-named.ensures)

pub returns-in_default-2 : goal.returns-in_default-2
returns-in_default-2 c =
    let a = c.args in
    nowhere_comes a.row a.mask a.toward a.size (cell_bits a.old.now) a.cell c.step.ensures c.behind.ensures
    (passed c.named.ensures c.if-not-named.false-raw) c.in_default.is
