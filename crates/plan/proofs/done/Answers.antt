-- `plan::done` meets its contract: the result is of the present set. Assumes nothing.
use Rattle.std.proofs.Common.{◌≡◌, ap, ◌∙◌, arith}
use Rattle.station.specs.declared.Outcome.{Outcome}
use Rattle.station.specs.Station.{present_issue}
use Rattle.station.proofs.Turns.{rebuilt, kept_resulted}
use Rattle.plan.proofs.done.Goals as goal

pub returns : goal.returns
returns c =
    let a = c.args in
    let issue : c.wrapping_sub_u16.result ≡ present_issue a.s = omega (arith, c.wrapping_sub_u16.ensures) in
    ap (λ (o : Outcome). o.station) (c.after.ensures ∙ rebuilt a.s _ c.resulted-t.ensures (kept_resulted a.s _ _)) ∙ rw issue
