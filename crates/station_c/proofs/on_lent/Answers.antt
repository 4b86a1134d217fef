-- `station_c::on_lent` meets its contract: too short a room, or what the call leaves. Assumes nothing.
use mathlib.Core.Path.{◌≡◌, sym, ap, subst, ◌∙◌}
use native.Mathlib.Omega.{arith}
use Rattle.station.specs.declared.Station.{Station}
use Rattle.rooms.specs.Rooms.{station_of}
use Rattle.rooms.proofs.Rooms.{short, entered, lent_there}
use Rattle.station_c.proofs.on_lent.Goals as goal

pub returns-then-room-lt-STATION : goal.returns-then-room-lt-STATION
returns-then-room-lt-STATION g c f h = short _ _ c.if-room-lt-STATION.true c.say.ensures

pub returns : goal.returns
returns g c f h =
    let e : c.station_of.result ≡ station_of c.args.room.now = lent_there _ (omega arith) c.station_of.ensures in
    let called = subst (λ (s : Station). g.F.FnOnce.post c.args.call (s, tt) c.call.result) e c.call.ensures in
    entered f _ (omega arith) c.station_of.ensures (h _ called ∙ ap f (sym e)) c.keep.ensures
