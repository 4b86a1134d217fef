-- `plain_station::sets::least_barred` meets its contract. Assumes nothing.
use Rattle.std.proofs.Common.{◌≡◌, true, false, arith, rules, tests}
use Rattle.std.proofs.lemmas.Iterator.{first_from_Range, serves_from_Range}
use Rattle.bits.specs.Bits.{image}
use Rattle.plain.specs.Plain.{plain_bits}
use Rattle.station.specs.Held.{barred}
use Rattle.plain_station.proofs.Searching.{first_found, verdict_seen}
use Rattle.plain_station.proofs.sets.least_barred.Goals as goal

pub find-requires : goal.find-requires
find-requires c = record { can = tt; finite = tt; callable = serves_from_Range (λ x q k. search (rules, tests)) (λ x low high. search rules) }

pub returns : goal.returns
returns c =
    let p = barred c.args.set (image (plain_bits c.args.floor)) in
    first_found c.args.n p _
    (first_from_Range _ _ _ _ (λ i. p i ≡ true) (λ i. p i ≡ false) c.find.ensures.ran
    (λ x q k. grind (arith, tests, verdict_seen))
    (λ x q k. (search rules, grind (arith, tests, verdict_seen))))
