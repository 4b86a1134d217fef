-- `desk::listing::with_line` meets its contract: eight bytes at their place. Assumes nothing.
use borrow.Author.Rules.{rules}
use Rattle.desk.proofs.Laying.{eight_laid, laid_none, laid_full, laid_more}
use native.Mathlib.Omega.{arith}
use Prim.Native.Nat.{◌*◌}
use Rattle.desk.proofs.listing.with_line.Goals as goal

pub returns-then-l-eq0 : goal.returns-then-l-eq0
returns-then-l-eq0 c = laid_none _ _ c.if-l-eq0.true

pub returns-then-lines-ge-MOST : goal.returns-then-lines-ge-MOST
returns-then-lines-ge-MOST c = laid_full _ _ c.if-l-eq0.false c.if-lines-ge-MOST.true

pub returns : goal.returns
returns c =
    let a = c.args in
    laid_more _ _ c.if-l-eq0.false (omega (arith, c.if-lines-ge-MOST.false))
    (eight_laid a.l a.lines.bytes _ _ (8 * a.lines.count)
    (omega (arith, c.if-lines-ge-MOST.false, c.well_formed.0.1.1.1.0.1.0.1))
    c.line_bytes.ensures (c.copy.ensures.all (search rules)).1)
