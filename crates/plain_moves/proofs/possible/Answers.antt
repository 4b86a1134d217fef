-- `plain_moves::possible` meets its contract: the turn, and a begin's two conditions (proofs/Driving.antt). Assumes nothing.
use mathlib.Core.Path.{◌≡◌}
use mathlib.Core.Logic.{⊎_elim}
use Rattle.rules.specs.declared.Event.TheVariants.{EndDone, EndNotDone}
use Rattle.plain.specs.Plain.{plain_bits}
use Rattle.plain_moves.proofs.Driving.{turn_told, possible_of, in_possible, out_possible, end_possible, stop_possible}
use Rattle.plain_moves.proofs.possible.Goals as goal

pub returns-in-BeginIn : goal.returns-in-BeginIn
returns-in-BeginIn c =
    let f = c.args.f in
    let e = c.in-BeginIn.is in
    possible_of (plain_bits f) e (in_possible f c.at_street-street.ensures (turn_told (plain_bits f) e c.in_turn-turn.ensures))

pub returns-in-BeginOut : goal.returns-in-BeginOut
returns-in-BeginOut c =
    let f = c.args.f in
    let e = c.in-BeginOut.is in
    possible_of (plain_bits f) e (out_possible f c.at_street-street.ensures (turn_told (plain_bits f) e c.in_turn-turn.ensures))

pub returns-in-EndDone : goal.returns-in-EndDone
returns-in-EndDone c =
    let f = plain_bits c.args.f in
    ⊎_elim
    (λ (e : c.args.e ≡ EndDone). possible_of f e (end_possible f (turn_told f e c.in_turn-turn.ensures)))
    (λ (e : c.args.e ≡ EndNotDone). possible_of f e (stop_possible f (turn_told f e c.in_turn-turn.ensures)))
    c.in-EndDone.is
