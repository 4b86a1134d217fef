-- `cards::numbers_after` meets its contract: the loop fills the array by element (proofs/Listing.antt). Assumes nothing.
use Rattle.cards.proofs.Listing.{fill_starts, fills, fill_ends, element, all_new, no_new}
use mathlib.Core.Path.{ap, ap₂, ◌∙◌}
use mathlib.Core.Bool.{Bool}
use Prim.Native.Nat.{ℕ}
use native.Mathlib.Omega.{arith}
use Rattle.bits.proofs.Cases.{passed, failed}
use Rattle.cards.specs.Private.{number_from, source_of}
use Rattle.cards.specs.Held.{numbers_in}
use Rattle.cards.proofs.numbers_after.Goals as goal

pub returns-then-not-well_formed : goal.returns-then-not-well_formed
returns-then-not-well_formed c = let a = c.args in no_new a.i a.r a.n (failed c.well_formed-2.ensures c.if-not-well_formed.true-raw)

pub loop-j-init : goal.loop-j-init
loop-j-init c = (fill_starts _ 42, (omega arith))

pub loop-j-preserved : goal.loop-j-preserved
loop-j-preserved c =
    let a = c.args in
    let well = passed c.well_formed-2.ensures c.if-not-well_formed.false-raw in
    let from =
    c.source.ensures
    ∙ ap₂ (λ (b : Bool) (k : ℕ). source_of a.i b k) c.low-at.ensures c.place_of.ensures in
    let at_source = c.number_at.ensures ∙ ap (number_from (numbers_in a.n)) from in
    (fills c.loop-j.invariant.0 (omega arith) (at_source ∙ element a.i a.r a.n c.loop-j.j (omega arith) well), (omega arith))

pub returns : goal.returns
returns c =
    let a = c.args in
    all_new a.i a.r a.n (passed c.well_formed-2.ensures c.if-not-well_formed.false-raw) (fill_ends c.loop-j.invariant.0 (omega arith))
