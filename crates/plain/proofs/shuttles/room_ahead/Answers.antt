-- `plain::shuttles::room_ahead` meets its contract. Assumes nothing.
use mathlib.Core.Path.{sym, ◌∙◌}
use native.Mathlib.Omega.{arith}
use Rattle.plain.specs.Plain.{plain_bits}
use Rattle.plain.proofs.Spans.{ahead_row}
use Rattle.plain.proofs.Ranges.{shuttles_ranges}
use Rattle.plain.proofs.Asking.{no_row, next_row}
use Rattle.plain.proofs.shuttles.room_ahead.Goals as goal

pub returns-in-None : goal.returns-in-None
returns-in-None c = let a = c.args in
    let r = shuttles_ranges a.side a.mask a.orientation a.toward c.requires in
    no_row a.side a.mask a.orientation a.toward (plain_bits a.f) r.1 r.3 c.ahead.ensures c.in-None.is

pub shuttle-requires : goal.shuttle-requires
shuttle-requires c = let a = c.args in
    let r = shuttles_ranges a.side a.mask a.orientation a.toward c.requires in
    let n = ahead_row a.mask (omega (arith, r.1)) a.toward (omega (arith, r.3)) (sym c.ahead.ensures ∙ c.in-Some.is) in (r.0, omega (arith, r.2), n.0, n.1)

pub returns-in-Some : goal.returns-in-Some
returns-in-Some c = let a = c.args in
    let r = shuttles_ranges a.side a.mask a.orientation a.toward c.requires in
    next_row a.side a.mask a.orientation a.toward (plain_bits a.f) r.1 r.3 c.ahead.ensures c.in-Some.is c.shuttle.ensures
