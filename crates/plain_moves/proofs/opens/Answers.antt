-- `plain_moves::opens` meets its contract: a drive-in is asked, no other event. Assumes nothing.
use mathlib.Core.Path.{◌≡◌, sym, ap}
use mathlib.Core.Logic.{◌⊎◌, ⊎_elim}
use Rattle.rules.specs.declared.Event.{Event}
use Rattle.rules.specs.declared.Event.TheVariants.{BeginOut, EndDone, EndNotDone}
use Rattle.plain_moves.specs.Moves.{opens_with}
use Rattle.plain_moves.proofs.opens.Goals as goal

pub returns-in-BeginIn : goal.returns-in-BeginIn
returns-in-BeginIn c = ap (λ (e : Event). opens_with e c.args.cars) (sym c.in-BeginIn.is)

pub returns-in-BeginOut : goal.returns-in-BeginOut
returns-in-BeginOut c =
    let asked = λ (e : Event). opens_with e c.args.cars in
    ⊎_elim (λ (e : c.args.e ≡ BeginOut). ap asked (sym e))
    (λ (o : (c.args.e ≡ EndDone) ⊎ (c.args.e ≡ EndNotDone)).
    ⊎_elim (λ (e : c.args.e ≡ EndDone). ap asked (sym e)) (λ (e : c.args.e ≡ EndNotDone). ap asked (sym e)) o)
    c.in-BeginOut.is
