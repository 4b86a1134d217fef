-- `station::Station::imaged` meets its contract: a chain of refusals in the order of the definition. Assumes nothing.
use Rattle.station.proofs.Moves.{image_fails, image_passes}
use Rattle.station.specs.Calls.{imaged}
use Rattle.std.proofs.Common.{◌≡◌, true, false, ◌&&◌, eqb, ◌∙◌, le-ltb, lt-ltb}
use Rattle.floor.specs.Sound.{sound}
use Rattle.station.proofs.Station.imaged.Goals as goal

pub returns-then-self-gt0 : goal.returns-then-self-gt0
unfolding imaged
returns-then-self-gt0 c = c.unmoved.ensures ∙ rw (lt-ltb _ _ c.if-self-gt0.true)

pub returns-then-not-sound-picture : goal.returns-then-not-sound-picture
unfolding imaged
returns-then-not-sound-picture c =
    let p = c.args.picture in
    let fails : sound p.bits && eqb p.apart 0 ≡ false = image_fails p.apart c.sound.ensures c.if-not-sound-picture.true-raw in
    c.unmoved-then-not-sound-picture.ensures ∙ rw (le-ltb _ _ c.if-self-gt0.false, fails)

pub returns : goal.returns
unfolding imaged
returns c =
    let p = c.args.picture in
    let passes : sound p.bits && eqb p.apart 0 ≡ true = image_passes p.apart c.sound.ensures c.if-not-sound-picture.false-raw in
    c.holding.ensures ∙ rw (le-ltb _ _ c.if-self-gt0.false, passes)
