-- `plain_moves::moved` meets its contract: the floor after, where the verdict allows it (proofs/Driving.antt). Assumes nothing.
use mathlib.Core.Path.{refl, sym}
use Rattle.plain_moves.proofs.Driving.{told_by, stays_put, moves_on}
use Rattle.plain_moves.proofs.moved.Goals as goal

pub after-requires : goal.after-requires
after-requires c =
    let a = c.args in
    sym (told_by a.i a.f c.verdict.ensures c.in-Ok.is)

pub returns-in-Ok : goal.returns-in-Ok
returns-in-Ok c =
    let a = c.args in
    moves_on a.i a.f c.verdict.ensures (sym (told_by a.i a.f c.verdict.ensures c.in-Ok.is))
    c.after.ensures

pub returns-in-Err-NotAllowed : goal.returns-in-Err-NotAllowed
returns-in-Err-NotAllowed c = let a = c.args in stays_put a.i a.f c.verdict.ensures c.in-Err-NotAllowed.is refl

pub returns-in-Err-IllFormed : goal.returns-in-Err-IllFormed
returns-in-Err-IllFormed c = let a = c.args in stays_put a.i a.f c.verdict.ensures c.in-Err-IllFormed.is refl
