-- Totals in which a message is counted are such as code holds, and a room that keeps them holds them. Assumes nothing.
use mathlib.Core.Path.{◌≡◌, refl, sym, ap, ◌∙◌}
use mathlib.Core.Bool.{Bool, true, false, ◌&&◌}
use mathlib.Core.Logic.{◌⊎◌, inl, inr}
use mathlib.Core.List.{List}
use Prim.Native.Nat.{ℕ, ◌+◌, ◌/◌, ◌≤◌, ◌<◌}
use native.Mathlib.Omega.{arith}
use borrow.Author.Tests.{le-ltb, leb-false, ltb-false}
use lib.Dec.{leb, ltb}
use lib.ListN.{get_or, length, drop, length-append}
use Rattle.bits.specs.Bits.{digit}
use Rattle.std.specs.Prelude.{is_none}
use Rattle.bits.proofs.Cases.{split, clash}
use Rattle.bits.proofs.Search.{lt_or_ge}
use Rattle.bits.proofs.Least.{least_below}
use Rattle.std.specs.declared.option.Option.{Option}
use Rattle.std.specs.declared.option.Option.TheVariants.{Some, None}
use Rattle.floor.specs.Sound.{total, cars_in}
use Rattle.floor.proofs.Few.{few_cars}
use Rattle.station.specs.declared.Station.{Station}
use Rattle.service.specs.Service.{respond}
use Rattle.totals.specs.declared.Totals.{Totals}
use Rattle.totals.specs.declared.Happened.{Happened}
use Rattle.totals.specs.declared.Name.{Name}
use Rattle.totals.specs.Totals.{size, order, name_at, counts, next_total, nexts, most_counted, full, first_full, counted_in}
use Rattle.totals.specs.declared.Name.TheVariants.{Kind, Number, Done, Failed, CarsIn, CarsOut, MostCars}
use Rattle.totals.proofs.Steps.{none_told}
use Rattle.totals.proofs.Order.{nexts_length, after_at, after_beyond}
use Rattle.week.specs.Weeks.{happened}
use Rattle.rooms.specs.Rooms.{station_of, writes}
use Rattle.report_c.specs.Entries.{full_byte, totals_bytes, totals_in, tallied, counting}
use Rattle.report_c.specs.Promises.{TotalsTyped, MessageCounted}
use Rattle.report_c.proofs.Forms.{totals_read_back, any_bytes_hold}
use Rattle.report_c.proofs.Rooms.{totals_size}

-- ---- no total passes the most

added : (b : Bool) (v : ℕ) → v ≤ most_counted → b && leb most_counted v ≡ false → v + digit b ≤ most_counted
added true v l e = let k = leb-false most_counted v e in omega arith
added false v l e = omega arith

next_small : (x : Name) (h : Happened) (v : ℕ) → h.cars ≤ most_counted → v ≤ most_counted → counts x h && leb most_counted v ≡ false → next_total x h v ≤ most_counted
next_small (Kind k) h v c l e = added (counts (Kind k) h) v l e
next_small (Number n) h v c l e = added (counts (Number n) h) v l e
next_small (Done op) h v c l e = added (counts (Done op) h) v l e
next_small (Failed op) h v c l e = added (counts (Failed op) h) v l e
next_small CarsIn h v c l e = added (counts CarsIn h) v l e
next_small CarsOut h v c l e = added (counts CarsOut h) v l e
next_small MostCars h v c l e = omega arith

module _ (t : Totals) (h : Happened) where
  pub counted_typed : TotalsTyped t → h.cars ≤ most_counted → TotalsTyped (counted_in t h).totals
  unfolding counted_in
  counted_typed w c = split (ltb (first_full t h) size)
      (λ e. rw e w)
      (λ e. rw e (record { places = nexts_length order h t.counts ∙ w.places; small = λ p. go e p (lt_or_ge p 52) }))
    where
      go : ltb (first_full t h) size ≡ false → (p : ℕ) → (p < 52) ⊎ (52 ≤ p) → get_or (nexts order h t.counts) p 0 ≤ most_counted
      go e p (inl l) =
          let z = ltb-false (first_full t h) size e in
          rw (after_at h t.counts p l (omega (arith, w.places)))
          (next_small (name_at p) h (get_or t.counts p 0) c (w.small p) (least_below size (full t h) p (omega arith)))
      go e p (inr l) = rw (after_beyond h t.counts p l) (w.small p)

  -- where one is full, all stay
  full_stays : is_none (counted_in t h).full ≡ false → (counted_in t h).totals ≡ t
  unfolding counted_in
  full_stays n = split (ltb (first_full t h) size) (λ e. rw e) (λ e. clash {b = is_none (counted_in t h).full} (rw e) n)

few : (x : Option ℕ) → ((n : ℕ) → x ≡ Some n → n ≤ 30) → cars_in x ≤ most_counted
few (Some n) f = let k = f n refl in omega arith
few None f = omega arith

happened_few : (s : Station) (message : List ℕ) → (happened s message).cars ≤ most_counted
unfolding happened
happened_few s message = let r = (respond s message).station.bits in few (total r) (few_cars r)

-- ---- what a room holds

-- a room that holds totals as code does, holds such totals after a message
pub record Counted (room station message : List ℕ) : Type 0 where
  pub long : 208 ≤ length (counting room station message).leaves
  pub typed : TotalsTyped (counted_in (totals_in room) (happened (station_of station) message)).totals
  pub totals : totals_in (counting room station message).leaves ≡ (counted_in (totals_in room) (happened (station_of station) message)).totals
  pub full : (counting room station message).says / 256 ≡ full_byte (counted_in (totals_in room) (happened (station_of station) message)).full

pub counted_room : (room station message : List ℕ) → TotalsTyped (totals_in room) → 208 ≤ length room → 60 ≤ length station → Counted room station message
unfolding counting tallied writes
counted_room room station message w h l =
    let x = happened (station_of station) message in
    let t = totals_in room in
    let c = counted_in t x in
    let typed = counted_typed t x w (happened_few (station_of station) message) in
    let past = drop (length (totals_bytes c.totals)) room in
    split (is_none c.full)
    (λ e. let f = ap full_byte (none_told c.full e) in
    let z = totals_size c.totals in
    record {
      long = rw (le-ltb _ _ h, le-ltb _ _ l, e, length-append (totals_bytes c.totals) past) (omega arith);
      typed = typed;
      totals = rw (le-ltb _ _ h, le-ltb _ _ l, e) (totals_read_back c.totals past typed);
      full = rw (le-ltb _ _ h, le-ltb _ _ l, e) (omega arith);
    })
    (λ e. record {
      long = rw (le-ltb _ _ h, le-ltb _ _ l, e) h;
      typed = typed;
      totals = rw (le-ltb _ _ h, le-ltb _ _ l, e) (sym (full_stays t x e));
      full = rw (le-ltb _ _ h, le-ltb _ _ l, e) (omega arith);
    })

pub message_counted : MessageCounted
message_counted room station message b h l =
    let c = counted_room room station message (any_bytes_hold room b) h l in (c.totals, c.full)
