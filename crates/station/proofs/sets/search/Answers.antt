-- `station::sets::search` meets its contract: four searches in one, with the areas passed gathered in one mask. Assumes nothing.
use Rattle.station.proofs.Loops.{search_starts, passes, searches, search_ends}
use Rattle.station.proofs.Moves.{one_judgement}
use Rattle.station.proofs.sets.search.Goals as goal

pub loop-i-init : goal.loop-i-init
loop-i-init c = search_starts _ _ _ _ _

pub loop-i-preserved-then-x-seen-eq0 : goal.loop-i-preserved-then-x-seen-eq0
loop-i-preserved-then-x-seen-eq0 c = let j = one_judgement _ _ c.judge-x.ensures in passes c.loop-i.invariant c.loop-i-test.true c.code_at.ensures j.0 j.1 j.2 c.if-x.true c.if-x-seen-eq0.true

pub loop-i-preserved : goal.loop-i-preserved
loop-i-preserved c =
    let j = one_judgement _ _ c.judge-x.ensures in
    searches c.loop-i.invariant c.loop-i-test.true c.code_at.ensures j.0 j.1 j.2 c.bit.ensures c.first-bad.ensures c.first-touching.ensures c.first-overlap.ensures c.first-barred.ensures

pub returns : goal.returns
returns c = search_ends c.loop-i.invariant c.loop-i-test.false
