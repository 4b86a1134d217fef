-- `floor::drives_fit` meets its contract: where no drive is under way each rule of the drives holds; else the answers are the rules, and
use mathlib.Core.Path.{◌≡◌, sym, ap, ap₂, ◌∙◌}
use mathlib.Core.Bool.{true, not, ◌&&◌, ◌||◌}
use mathlib.Core.List.{[], ◌∷◌}
use borrow.Author.Tests.{eqb-true}
use Rattle.bits.specs.Bits.{Bits, bit, count}
use Rattle.bits.specs.Places.{places}
use Rattle.bits.proofs.Counts.{count_zero}
use Rattle.floor.specs.Floor.{drive_in, drive_out, drives}
use Rattle.floor.specs.Tests.{set, free, no, holds, all_hold}
use Rattle.floor.specs.Sound.{drives_at_street, drives_into_empty, drives_out_of_full}
use Rattle.floor.proofs.Judging.{one, ◌also◌}
use Rattle.floor.proofs.drives_fit.Goals as goal

-- the masks name their places. Assumes nothing.
-- where both bits of the drives are 0, nothing is asked of the rest
none_under_way : (f : Bits) → holds (free drives) f ≡ true → all_hold (no (set drives) ∷ drives_at_street ∷ drives_into_empty ∷ drives_out_of_full ∷ []) f ≡ true
none_under_way f h =
    let zero = count_zero drives f (eqb-true (count drives f) 0 h) in
    rw (zero drive_in tt, zero drive_out tt)

pub returns-then-free : goal.returns-then-free
unfolding places
returns-then-free c = sym (none_under_way (bit c.args.r) (sym c.free.ensures ∙ c.if-free.true))

pub returns : goal.returns
unfolding places
returns c =
    let f = bit c.args.r in
    let some = sym c.if-free.false ∙ c.free.ensures in
    let street = ap₂ ◌&&◌ c.free-2.ensures c.free-3.ensures in
    (one f (no (set drives)) (ap not c.all.ensures)
    also one f drives_at_street (ap₂ ◌||◌ some street)
    also one f drives_into_empty (ap₂ ◌||◌ c.free-4.ensures c.free-5.ensures)
    also one f drives_out_of_full (ap₂ ◌||◌ c.free-6.ensures c.all-2.ensures)).same
