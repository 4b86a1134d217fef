-- `station::Station::requested` meets its contract: a chain of refusals in the order of the definition. Assumes nothing.
use Rattle.station.proofs.Loops.{none_marked}
use Rattle.station.specs.Calls.{requested}
use Rattle.std.proofs.Common.{◌∙◌, le-ltb, lt-ltb, eq-eqb, ne_eqb}
use Rattle.station.proofs.Station.requested.Goals as goal

pub returns-then-self-gt0 : goal.returns-then-self-gt0
unfolding requested
returns-then-self-gt0 c = c.unmoved.ensures ∙ rw (lt-ltb _ _ c.if-self-gt0.true)

pub returns-then-count-gt-MOST : goal.returns-then-count-gt-MOST
unfolding requested
returns-then-count-gt-MOST c = c.unmoved-then-count-gt-MOST.ensures ∙ rw (le-ltb _ _ c.if-self-gt0.false, lt-ltb _ _ c.if-count-gt-MOST.true)

pub returns-then-count-eq0 : goal.returns-then-count-eq0
unfolding requested
returns-then-count-eq0 c = c.unmoved-then-count-eq0.ensures ∙ rw (le-ltb _ _ c.if-self-gt0.false, le-ltb _ _ c.if-count-gt-MOST.false, eq-eqb _ _ c.if-count-eq0.true)

pub returns-then-found-count : goal.returns-then-found-count
unfolding requested
returns-then-found-count c = c.unmoved-then-found-count.ensures ∙ rw (le-ltb _ _ c.if-self-gt0.false, le-ltb _ _ c.if-count-gt-MOST.false, ne_eqb _ _ c.if-count-eq0.false, ← c.search-found.ensures.0, lt-ltb _ _ c.if-found-count.true)

pub cleared-requires : goal.cleared-requires
cleared-requires c = let e = c.search-found.ensures in record { touching = e.1; overlap = e.2; barred = e.3 ∙ none_marked _ _ _; lift = e.4 }

pub returns : goal.returns
unfolding requested
returns c = c.cleared.ensures ∙ rw (le-ltb _ _ c.if-self-gt0.false, le-ltb _ _ c.if-count-gt-MOST.false, ne_eqb _ _ c.if-count-eq0.false, ← c.search-found.ensures.0, le-ltb _ _ c.if-found-count.false)
