-- The report's room alone: each message that is told is counted in it, up to the first at which a total is full. Assumes nothing.
use mathlib.Core.Path.{◌≡◌, refl, sym, ap, ap₂, subst, ◌∙◌}
use mathlib.Core.Bool.{false}
use mathlib.Core.List.{List, [], ◌∷◌, map}
use mathlib.Core.Logic.{◌⊎◌, inl, inr}
use Prim.Native.Nat.{ℕ, ◌/◌, ◌%◌, ◌≤◌, ◌<◌}
use native.Mathlib.Omega.{arith}
use borrow.Author.Tests.{le-ltb, ltb-true, eq-eqb, ne_eqb}
use lib.Dec.{eqb, ltb}
use lib.ListN.{get_or, length, drop, replicate, length-append, get_or-replicate, get_or-eq_default}
use Rattle.bits.proofs.Cases.{split, clash}
use Rattle.bits.proofs.Search.{lt_or_ge}
use Rattle.std.specs.declared.option.Option.{Option}
use Rattle.std.specs.declared.option.Option.TheVariants.{None}
use Rattle.std.specs.Prelude.{is_none}
use Rattle.totals.specs.declared.Totals.{Totals}
use Rattle.totals.specs.declared.Happened.{Happened}
use Rattle.totals.specs.declared.Tally.{Tally}
use Rattle.totals.specs.Totals.{size, first_full, blank, counted_in, counted_all}
use Rattle.totals.proofs.Steps.{none_told}
use Rattle.rooms.specs.Rooms.{writes}
use Rattle.report_c.specs.Entries.{no_total, full_byte, full_by, totals_bytes, totals_in, starting, counting}
use Rattle.report_c.specs.Promises.{TotalsTyped}
use Rattle.report_c.proofs.Rooms.{totals_size}
use Rattle.report_c.proofs.Forms.{totals_read_back}
use Rattle.report_c.proofs.Keeping.{counted_room}
use Rattle.report_laws.specs.Rounds.{HostReport, new_report, Told, tell, tell_all, StationsLent, room_tally, happened_to}
use Rattle.report_laws.specs.Statements.{RoomCountsEach}

-- a room that is long enough and holds totals as code does, and no total is full yet
record Open (r : HostReport) : Type 0 where
  pub long : 208 ≤ length r.room
  pub typed : TotalsTyped (totals_in r.room)
  pub none : r.full ≡ no_total

-- ---- a new report

blank_typed : TotalsTyped blank
blank_typed = record { places = refl; small = λ p. go p (lt_or_ge p 52) }
  where
    go : (p : ℕ) → (p < 52) ⊎ (52 ≤ p) → get_or blank.counts p 0 ≤ 4294967295
    go p (inl h) = rw (get_or-replicate {A = ℕ} 52 p 0 0 h) (omega arith)
    go p (inr h) = rw (get_or-eq_default {A = ℕ} (replicate 52 0) 0 {n = p} (omega arith)) (omega arith)

new_blank : (room : List ℕ) → 208 ≤ length room → totals_in (new_report room).room ≡ blank
unfolding starting writes
new_blank room h = rw (le-ltb _ _ h) (totals_read_back blank (drop (length (totals_bytes blank)) room) blank_typed)

new_open : (room : List ℕ) → 208 ≤ length room → Open (new_report room)
unfolding starting writes
new_open room h = record {
  long =
      let z = totals_size blank in
      rw (le-ltb _ _ h, length-append (totals_bytes blank) (drop (length (totals_bytes blank)) room)) (omega arith);
  typed = subst TotalsTyped (sym (new_blank room h)) blank_typed;
  none = refl;
}

-- ---- one message

-- the place of a full total is a byte, and so is the number of none; that number is no place
module _ (t : Totals) (h : Happened) where
  byte : full_byte (counted_in t h).full < 256
  unfolding counted_in
  byte = split (ltb (first_full t h) size)
      (λ e. let l = ltb-true (first_full t h) size e in rw e (omega arith))
      (λ e. rw e (omega arith))

  read_back : full_by (full_byte (counted_in t h).full) ≡ (counted_in t h).full
  unfolding counted_in
  read_back = split (ltb (first_full t h) size)
      (λ e. let l = ltb-true (first_full t h) size e in rw (e, ne_eqb (first_full t h) no_total (λ q. omega arith)))
      (λ e. rw e)

  differs : is_none (counted_in t h).full ≡ false → eqb (full_byte (counted_in t h).full) no_total ≡ false
  unfolding counted_in
  differs n = split (ltb (first_full t h) size)
      (λ e. let l = ltb-true (first_full t h) size e in rw e (ne_eqb (first_full t h) no_total (λ q. omega arith)))
      (λ e. clash {b = is_none (counted_in t h).full} (rw e) n)

-- the number that is returned
told_full : (r : HostReport) → Open r → (x : Told) → 60 ≤ length x.station → (tell r x).full ≡ full_byte (counted_in (totals_in r.room) (happened_to x)).full
told_full r o x l =
    let c = counted_room r.room x.station x.message o.typed o.long l in
    let b = byte (totals_in r.room) (happened_to x) in
    let f : (counting r.room x.station x.message).says / 256 % 256 ≡ full_byte (counted_in (totals_in r.room) (happened_to x)).full =
    omega (arith, c.full) in
    rw (eq-eqb _ _ o.none) f

-- it is counted in the totals that the room held
told_once : (r : HostReport) → Open r → (x : Told) → 60 ≤ length x.station → room_tally (tell r x) ≡ counted_in (totals_in r.room) (happened_to x)
told_once r o x l =
    let c = counted_room r.room x.station x.message o.typed o.long l in
    let b = byte (totals_in r.room) (happened_to x) in
    let f : (counting r.room x.station x.message).says / 256 % 256 ≡ full_byte (counted_in (totals_in r.room) (happened_to x)).full =
    omega (arith, c.full) in
    rw (eq-eqb _ _ o.none)
    (ap₂ (λ (t : Totals) (p : Option ℕ). record { totals = t; full = p }) c.totals (ap full_by f ∙ read_back (totals_in r.room) (happened_to x)))

still_long : (r : HostReport) → Open r → (x : Told) → 60 ≤ length x.station → 208 ≤ length (tell r x).room
still_long r o x l = rw (eq-eqb _ _ o.none) (counted_room r.room x.station x.message o.typed o.long l).long

still_open : (r : HostReport) → Open r → (x : Told) → 60 ≤ length x.station → (counted_in (totals_in r.room) (happened_to x)).full ≡ None
    → Open (tell r x)
still_open r o x l n =
    let c = counted_room r.room x.station x.message o.typed o.long l in
    let e = told_once r o x l in
    record {
      long = still_long r o x l;
      typed = subst TotalsTyped (sym (ap (λ (t : Tally). t.totals) e)) c.typed;
      none = told_full r o x l ∙ ap full_byte n;
    }

-- ---- all of them

-- once one is full, nothing more is counted
full_rests : (r : HostReport) (xs : List Told) → eqb r.full no_total ≡ false → tell_all r xs ≡ r
full_rests r [] e = refl
full_rests r (x ∷ xs) e = rw e (full_rests r xs e)

-- a room that is long enough and holds what is counted
pub record Holds (r : HostReport) (c : Tally) : Type 0 where
  pub long : 208 ≤ length r.room
  pub counted : room_tally r ≡ c

told_all : (r : HostReport) → Open r → (xs : List Told) → StationsLent xs → Holds (tell_all r xs) (counted_all (totals_in r.room) (map happened_to xs))
unfolding counted_all
told_all r o [] l = record { long = o.long; counted = ap (λ (p : ℕ). record { totals = totals_in r.room; full = full_by p }) o.none }
told_all r o (x ∷ xs) (l, ls) =
    let c = counted_in (totals_in r.room) (happened_to x) in
    let e = told_once r o x l in
    split (is_none c.full)
    (λ t. rw t
    (subst (λ (k : Tally). Holds (tell_all (tell r x) xs) (counted_all k.totals (map happened_to xs))) e
    (told_all (tell r x) (still_open r o x l (none_told c.full t)) xs ls)))
    (λ t. rw t
    (subst (λ (q : HostReport). Holds q c) (sym (full_rests (tell r x) xs (ap (λ (p : ℕ). eqb p no_total) (told_full r o x l) ∙ differs (totals_in r.room) (happened_to x) t)))
    (record { long = still_long r o x l; counted = e })))

pub new_told : (room : List ℕ) → 208 ≤ length room → (xs : List Told) → StationsLent xs
    → Holds (tell_all (new_report room) xs) (counted_all blank (map happened_to xs))
new_told room h xs l =
    subst (λ (t : Totals). Holds (tell_all (new_report room) xs) (counted_all t (map happened_to xs))) (new_blank room h)
    (told_all (new_report room) (new_open room h) xs l)

pub room_counts_each : RoomCountsEach
room_counts_each room h xs l = (new_told room h xs l).counted
