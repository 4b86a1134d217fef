-- `plain_moves::in_turn` meets its contract: a begin while no drive is under way, an end while one is (proofs/Driving.antt). Assumes nothing.
use mathlib.Core.Path.{◌≡◌}
use mathlib.Core.Logic.{⊎_elim}
use Rattle.rules.specs.declared.Event.TheVariants.{BeginIn, BeginOut, EndDone, EndNotDone}
use Rattle.plain.specs.Plain.{plain_bits}
use Rattle.plain_moves.proofs.Driving.{begins_in_turn, ends_in_turn, turn_of}
use Rattle.plain_moves.proofs.in_turn.Goals as goal

pub returns-in-BeginIn : goal.returns-in-BeginIn
returns-in-BeginIn c =
    let f = plain_bits c.args.f in
    let t = begins_in_turn f c.under_way-driving.ensures in
    ⊎_elim (λ (e : c.args.e ≡ BeginIn). turn_of f e t.0) (λ (e : c.args.e ≡ BeginOut). turn_of f e t.1) c.in-BeginIn.is

pub returns-in-EndDone : goal.returns-in-EndDone
returns-in-EndDone c =
    let f = plain_bits c.args.f in
    let t = ends_in_turn f c.under_way-driving.ensures in
    ⊎_elim (λ (e : c.args.e ≡ EndDone). turn_of f e t.0) (λ (e : c.args.e ≡ EndNotDone). turn_of f e t.1) c.in-EndDone.is
