-- `plain_station::sets::lift_in` meets its contract. Assumes nothing.
use Rattle.std.proofs.Common.{◌≡◌, true, false, refl, ◌∙◌, arith, rules, tests}
use Rattle.std.proofs.lemmas.Iterator.{cases_from_any, serves_from_Range, YieldsList-from_range}
use Rattle.plain_station.proofs.Searching.{any_found, has_lift, lift_seen, lift_is}
use Rattle.plain_station.proofs.sets.lift_in.Goals as goal

pub any-requires : goal.any-requires
any-requires c = record { can = tt; finite = tt; callable = serves_from_Range (λ x q k. search (rules, tests)) (λ x low high. search rules) }

pub returns : goal.returns
returns c =
    let n = c.args.n in
    let p = has_lift c.args.set in
    any_found n p _
    (cases_from_any _ _ _ (λ i. p i ≡ true) (λ i. p i ≡ false) c.any.ensures.ran (YieldsList-from_range 0 n n refl (omega arith))
    (λ x q k. grind (arith, tests, lift_seen))
    (λ x q k. (search rules, grind (arith, tests, lift_seen))))
    ∙ lift_is c.args.set n
