-- `cards::where_is` meets its contract: each return is one case of the definition (proofs/Seeking.antt). Assumes nothing.
use mathlib.Core.Path.{sym}
use native.Mathlib.Omega.{arith}
use lib.Seq.{length-take-le}
use Rattle.cards.proofs.Seeking.{stands_below, stands_there, stands_nowhere}
use Rattle.cards.proofs.where_is.Goals as goal

pub slice_bounds-first-end : goal.slice_bounds-first-end
slice_bounds-first-end c = sym (length-take-le 41 c.args.n (omega (arith, c.well_formed.0.1.0.1)))

pub overflow_cast-j : goal.overflow_cast-j
overflow_cast-j c =
    let a = c.args in
    omega (arith, stands_below a.n a.c c.well_formed.0.1.0.1 c.if-c-eq0.false c.first.ensures c.in-Some.is)

pub returns-in-Some : goal.returns-in-Some
returns-in-Some c =
    let a = c.args in
    stands_there a.n a.c c.well_formed.0.1.0.1 c.if-c-eq0.false c.first.ensures c.in-Some.is c.place_of.ensures

pub returns-in-None : goal.returns-in-None
returns-in-None c =
    let a = c.args in
    stands_nowhere a.n a.c c.well_formed.0.1.0.1 c.if-c-eq0.false c.first.ensures c.in-None.is
