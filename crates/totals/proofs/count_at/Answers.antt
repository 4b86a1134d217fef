use mathlib.Core.Bool.{not}
use mathlib.Core.Path.{sym, ap, ◌∙◌}
use Rattle.totals.proofs.Placing.{marks_within}
use Rattle.totals.proofs.Steps.{none_told, all_raised, all_stay}
use Rattle.totals.proofs.count_at.Goals as goal

pub first_full-full-requires : goal.first_full-full-requires
first_full-full-requires c = rw c.marks_of-m.ensures (marks_within c.args.h)

pub raise_all-requires : goal.raise_all-requires
raise_all-requires c = (c.marks_of-m.ensures, sym c.first_full-full.ensures ∙ none_told _ (ap not c.if-is_none.ensures))

pub returns-then-is_none : goal.returns-then-is_none
returns-then-is_none c =
    let none = none_told _ (ap not c.if-is_none.ensures) in
    rw none (all_raised c.args.counts.now c.args.h (rw
    c.marks_of-m.ensures at (sym c.first_full-full.ensures ∙ none)) c.raise_all.new.counts c.raise_all.ensures)

pub returns-else-is_none : goal.returns-else-is_none
returns-else-is_none c =
    all_stay c.args.counts.now c.args.h c.first_full-full.result (rw c.marks_of-m.ensures at
    c.first_full-full.ensures) (ap not c.if-is_none.ensures)
