-- What the desk tells: where a card's car is, and which card is leaving. Assumes nothing.
use mathlib.Core.Path.{◌≡◌, refl, sym, ap, fun_ext, ◌∙◌}
use mathlib.Core.Bool.{Bool, true, false, cond, not, ◌&&◌, or-false}
use mathlib.Core.List.{List, [], ◌∷◌}
use Prim.Native.Nat.{ℕ}
use native.Mathlib.Omega.{arith}
use lib.Dec.{ltb}
use borrow.Author.Tests.{lt-ltb, le-ltb, ne_eqb}
use Rattle.bits.specs.Bits.{Bits, bit}
use Rattle.bits.specs.Places.{elem}
use Rattle.bits.specs.Search.{least}
use Rattle.bits.proofs.Cases.{split, clash, both, true→T}
use Rattle.floor.specs.Floor.{raised_car, drive_out}
use Rattle.floor.specs.Tests.{set}
use Rattle.floor.specs.Cars.{Car, pair, single, raised, Stands}
use Rattle.floor.specs.Sound.{sound, sound_rules}
use Rattle.floor.proofs.Promises.{sound_exactly}
use Rattle.floor.proofs.Reading.{nth_holds}
use Rattle.floor.proofs.Standing.{or_else}
use Rattle.cars.specs.Lists.{anchor}
use Rattle.station.specs.declared.Station.{Station}
use Rattle.station.specs.Held.{code_at, held_area}
use Rattle.station.specs.Station.{marked}
use Rattle.station_laws.proofs.Fits.{fit_has}
use Rattle.cards.specs.Following.{no_source}
use Rattle.cards.specs.Held.{numbers_in, cards_fit, where_is}
use Rattle.cards_laws.proofs.Anchors.{stands}
use Rattle.cards_laws.proofs.Tested.{fit_marked}
use Rattle.cards_laws.proofs.Where.{where_right}
use Rattle.cards_laws.proofs.Arrays.{fit_cards}
use Rattle.desk.specs.declared.Desk.{Desk}
use Rattle.desk.specs.declared.Whereabouts.TheVariants.{At, LastKnown, Moving, NotHere}
use Rattle.std.specs.declared.option.Option.{Option}
use Rattle.std.specs.declared.option.Option.TheVariants.{Some, None}
use Rattle.std.specs.declared.result.Result.{Result}
use Rattle.std.specs.declared.result.Result.TheVariants.{Ok, Err}
use Rattle.desk.specs.declared.AskError.{AskError}
use Rattle.desk.specs.declared.Whereabouts.{Whereabouts}
use Rattle.desk.specs.Desk.{desk_fit}
use Rattle.desk.specs.Questions.{is_under, mover_of, place_after, place_known, whereabouts, leaving}
use Rattle.desk_laws.specs.Promises.{on_parts, moves_car, WhereTold, LeavingTold}
use Rattle.desk_laws.proofs.Calls.{fit_parts}

-- ---- where a car is

-- parts are under the place of a car exactly if they are under it
pub under_is : (parts : Bits) (x : Car) → Stands x → is_under parts (anchor x) ≡ on_parts parts x
under_is parts (pair c) h = rw (lt-ltb c 20 (omega arith))
under_is parts (single c) h = rw (le-ltb c 20 h.0) (or-false (parts c))
under_is parts raised h = or-false (parts raised_car)

-- no car stands nowhere
somewhere : (x : Car) → Stands x → anchor x ≡ no_source → ⊥
somewhere (pair c) h e = omega arith
somewhere (single c) h e = omega (arith, h.1)
somewhere raised h e = omega arith

mover_is : (s : Station) (x : Car) → Stands x → mover_of s (anchor x) ≡ least s.count (moves_car s x)
unfolding mover_of
mover_is s x h =
    ap (least s.count)
    (fun_ext (λ i. ap (λ (b : Bool). not (marked s i) && b) (under_is (λ k. elem k (held_area (code_at s.set i))) x h)))

placed_at : (d : Desk) (c : ℕ) (x : Car) → Stands x
    → let i = least d.station.count (moves_car d.station x) in
    place_known d c (anchor x)
    ≡ cond (on_parts (bit d.station.apart) x) (LastKnown (anchor x))
    (cond (ltb i d.station.count) (Moving (anchor x) (place_after d i c)) (At (anchor x)))
unfolding place_known
placed_at d c x h = rw (ne_eqb (anchor x) no_source (somewhere x h), under_is (bit d.station.apart) x h, mover_is d.station x h)

pub whereabouts_fit : (d : Desk) (c : ℕ) → desk_fit d ≡ true → whereabouts d c ≡ Ok (place_known d c (where_is d.numbers c))
unfolding whereabouts
whereabouts_fit d c f = rw f

-- what a question is answered with
abbrev pub known_in : Result Whereabouts AskError → Whereabouts
known_in (Ok w) = w
known_in (Err e) = NotHere

placed_nowhere : (d : Desk) (c : ℕ) → place_known d c no_source ≡ NotHere
unfolding place_known
placed_nowhere d c = refl

pub where_told : WhereTold
where_told d l f L c n =
    let (s, g) = fit_parts d f in
    let r = d.station.bits in
    let (here, gone) = where_right (bit r) d.numbers l L (fit_cards r d.numbers (fit_has d.station s).sound g) c n in (
      λ x a e. whereabouts_fit d c f ∙ ap Ok (ap (place_known d c) (here x a e) ∙ placed_at d c x (stands l x L.stand a)),
      λ none. whereabouts_fit d c f ∙ ap Ok (ap (place_known d c) (gone none) ∙ placed_nowhere d c),
    )

-- ---- which card is leaving

-- a car that is being driven out is on the raised lift
out_raised : (r : ℕ) → sound r ≡ true → bit r drive_out ≡ true → bit r raised_car ≡ true
out_raised r s o =
    let rule = nth_holds (bit r) sound_rules (true→T ((sound_exactly r).0 s).rules) 15 in
    (both _ _ (or_else (drive_out ∷ []) (set (raised_car ∷ [])) (bit r) rule drive_out tt o)).0

-- and has a number
leaving_numbered : (r : ℕ) (a : List ℕ) → sound r ≡ true → cards_fit r a ≡ true → bit r drive_out ≡ true → numbers_in a raised_car ≡ 0 → ⊥
leaving_numbered r a s f o = (fit_marked r a f).some raised_car (out_raised r s o)

-- the number that an answer has, 0 for none
abbrev card_in : Result (Option ℕ) AskError → ℕ
card_in (Ok (Some c)) = c
card_in (Ok None) = 0
card_in (Err e) = 0

abbrev is_card : Result (Option ℕ) AskError → Bool
is_card (Ok (Some c)) = true
is_card (Ok None) = false
is_card (Err e) = false

pub leaving_told : LeavingTold
unfolding leaving
leaving_told d c f =
    let (s, g) = fit_parts d f in
    rw f (
      λ e. split (bit d.station.bits drive_out)
          (λ o. let n : numbers_in d.numbers raised_car ≡ c = ap card_in (rw o at e) in
          (o, n, λ z. leaving_numbered d.station.bits d.numbers (fit_has d.station s).sound g o (n ∙ z)))
          (λ o. clash refl (sym (ap is_card (rw o at e)))),
      λ h. rw h.0 (ap (λ (n : ℕ). Ok (Some n)) h.1),
    )
