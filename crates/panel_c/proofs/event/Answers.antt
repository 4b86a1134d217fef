-- `panel_c::event` meets its contract: the plain station's call is the packed one's on a fit station. Assumes nothing.
use Prim.Native.Nat.{◌^◌, ◌<◌}
use mathlib.Core.Path.{◌≡◌, refl}
use Rattle.bits.proofs.Cases.{split}
use Rattle.station.specs.Station.{fit}
use Rattle.plain_station.specs.Plain.{plain_of, plain_evented}
use Rattle.panel_c.proofs.Calls.{unfit_event, plain_event}
use borrow.Author.Rules.{rules}
use Rattle.panel_c.proofs.event.Goals as goal
use Rattle.panel_c.proofs.event.Goals.{Start}

-- the numbers of a station are as wide as their types
typed : (c : Start) → (c.args.s.bits < 2 ^ 64) × (c.args.s.answered < 2 ^ 8)
typed c = (search rules, search rules)

pub returns : goal.returns
returns c =
    let s = c.args.s in
    let e = c.on_fit.ensures in
    let t = typed (goal.at.returns c).Start in
    split (fit s)
    (λ f. let m = e.made f in
    let d : m.0 ≡ plain_evented (plain_of s) c.args.way = search rules in
    plain_event s t.0 t.1 f refl _ d m.2)
    (λ f. unfit_event s f (e.unfit f) _)
