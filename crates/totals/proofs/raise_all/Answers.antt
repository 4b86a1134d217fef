use Rattle.totals.specs.Private.{raised_all}
use Rattle.totals.proofs.Steps.{ready_1, ready_2, ready_3, ready_4}
use Rattle.totals.proofs.raise_all.Goals as goal

pub raise-requires : goal.raise-requires
raise-requires c =
    rw c.requires.0 (ready_1 c.args.counts.now c.args.h (rw c.requires.0 at c.requires.1))

pub raise-requires-2 : goal.raise-requires-2
raise-requires-2 c =
    rw (c.raise.ensures, c.requires.0) (ready_2 c.args.counts.now c.args.h (rw c.requires.0 at c.requires.1))

pub raise-requires-3 : goal.raise-requires-3
raise-requires-3 c =
    rw (c.raise-2.ensures, c.raise.ensures, c.requires.0) (ready_3 c.args.counts.now c.args.h (rw
    c.requires.0 at c.requires.1))

pub raise-requires-4 : goal.raise-requires-4
raise-requires-4 c =
    rw (c.raise-3.ensures, c.raise-2.ensures, c.raise.ensures, c.requires.0) (ready_4 c.args.counts.now c.args.h (rw c.requires.0 at c.requires.1))

pub returns : goal.returns
unfolding raised_all
returns c = rw (c.raise_cars.ensures, c.raise-4.ensures, c.raise-3.ensures, c.raise-2.ensures, c.raise.ensures, c.requires.0)
