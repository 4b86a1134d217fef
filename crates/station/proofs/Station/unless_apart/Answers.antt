-- `station::Station::unless_apart` meets its contract: by the bit of the lift. Assumes nothing.
use Rattle.std.proofs.Common.{◌≡◌, true, false, sym, ◌∙◌}
use Rattle.station.specs.Held.{lift_apart}
use Rattle.station.proofs.Station.unless_apart.Goals as goal

pub returns-then-bit : goal.returns-then-bit
returns-then-bit c =
    let lost : lift_apart c.args.self.apart ≡ true = sym c.bit.ensures ∙ c.if-bit.true in
    c.unmoved.ensures ∙ rw lost

pub returns : goal.returns
returns c =
    let there : lift_apart c.args.self.apart ≡ false = sym c.bit.ensures ∙ c.if-bit.false in
    rw there
