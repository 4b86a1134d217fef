-- `panel_c::result` meets its contract: the plain station's call is the packed one's on a fit station. Assumes nothing.
use Prim.Native.Nat.{◌^◌, ◌<◌}
use mathlib.Core.Path.{◌≡◌, refl}
use Rattle.bits.proofs.Cases.{split}
use Rattle.station.specs.Station.{fit}
use Rattle.plain_station.specs.Plain.{plain_of, plain_resulted}
use Rattle.panel_c.proofs.Calls.{unfit_result, plain_result}
use borrow.Author.Rules.{rules}
use Rattle.panel_c.proofs.result.Goals as goal
use Rattle.panel_c.proofs.result.Goals.{Start}

-- the numbers of a station are as wide as their types
typed : (c : Start) → (c.args.s.bits < 2 ^ 64) × (c.args.s.answered < 2 ^ 8)
typed c = (search rules, search rules)

pub returns : goal.returns
returns c =
    let s = c.args.s in
    let e = c.on_fit.ensures in
    let t = typed (goal.at.returns c).Start in
    split (fit s)
    (λ f. let m = e.made f in
    let d : m.0 ≡ plain_resulted (plain_of s) c.args.report = search rules in
    plain_result s t.0 t.1 f refl _ d m.2)
    (λ f. unfit_result s f (e.unfit f) _)
