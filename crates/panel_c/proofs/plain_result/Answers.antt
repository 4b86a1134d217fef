-- `panel_c::plain_result` meets its contract: as every entry on a lent station. Assumes nothing.
use mathlib.Core.Path.{◌≡◌}
use borrow.Author.Rules.{rules}
use Rattle.station.specs.declared.Station.{Station}
use Rattle.station.specs.declared.Outcome.{Outcome}
use Rattle.station.specs.Calls as calls
use Rattle.rooms.specs.Rooms.{lent_station}
use Rattle.panel_c.proofs.Rooms.{lent}
use Rattle.panel_c.proofs.plain_result.Goals as goal

pub returns : goal.returns
returns c =
    let e = c.on_lent.ensures in
    let room = c.args.room.now in
    let call : Station → Outcome = λ s. calls.result s (record { issue = c.args.issue; number = c.args.number; ending = c.args.ending }) in
    lent call room e.short (λ h. let m = e.kept h in
    let d : m.0 ≡ call (lent_station room) = search rules in
    (m.0, d, m.2))
