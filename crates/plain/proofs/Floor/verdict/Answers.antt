-- `plain::Floor::verdict` meets its contract: the loop searches for the first condition that fails (proofs/Telling.antt). Assumes nothing.
use native.Mathlib.Omega.{arith}
use Rattle.plain.specs.Plain.{plain_bits}
use Rattle.plain.proofs.Telling.{ill_formed, search_starts, search_goes_on, search_stops, search_ends}
use Rattle.plain.proofs.Floor.verdict.Goals as goal

pub returns-then-not-well_formed : goal.returns-then-not-well_formed
returns-then-not-well_formed c = ill_formed c.args.i (plain_bits c.args.self) c.well_formed-2.ensures c.if-not-well_formed.true-raw

pub loop-c-init : goal.loop-c-init
loop-c-init c = search_starts c.args.i (plain_bits c.args.self) c.well_formed-2.ensures c.if-not-well_formed.false-raw

pub returns-in-Some : goal.returns-in-Some
returns-in-Some c = search_stops c.args.i
    (plain_bits c.args.self)
    c.well_formed-2.ensures c.if-not-well_formed.false-raw
    c.loop-c.invariant c.failing.ensures c.in-Some.is

pub loop-c-preserved : goal.loop-c-preserved
loop-c-preserved c = search_goes_on c.args.i
    (plain_bits c.args.self)
    c.well_formed-2.ensures c.if-not-well_formed.false-raw
    c.loop-c.invariant c.failing.ensures (omega arith) c.in_default.is

pub returns : goal.returns
returns c = search_ends c.loop-c.invariant (omega arith)
