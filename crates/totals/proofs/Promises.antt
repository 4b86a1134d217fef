-- The promises of specs/Promises.antt: what the totals are after some happenings, from what they were before the last. Assumes nothing.
use mathlib.Core.Path.{◌≡◌, refl, sym, ap, ◌∙◌}
use mathlib.Core.Bool.{Bool, true, false, ◌&&◌}
use mathlib.Core.List.{List, [], ◌∷◌, ◌++◌, append_assoc, append-nil}
use mathlib.Core.Logic.{◌⊎◌, inl, inr}
use Prim.Native.Nat.{ℕ, ◌+◌, ◌≤◌, ◌<◌, max}
use native.Mathlib.Omega.{arith}
use lib.Dec.{leb, ltb}
use lib.ListN.{length, get_or, get_or-replicate}
use borrow.Author.Tests.{ltb-true, ltb-false, lt-ltb, le-ltb, leb-true, leb-false}
use Rattle.bits.specs.Bits.{digit}
use Rattle.bits.specs.Search.{IsLeast}
use Rattle.bits.proofs.Cases.{split}
use Rattle.bits.proofs.Search.{lt_or_ge}
use Rattle.bits.proofs.Least.{least_le, least_below, found_least}
use Rattle.std.specs.declared.option.Option.TheVariants.{Some, None}
use Rattle.totals.specs.declared.Totals.{Totals}
use Rattle.totals.specs.declared.Happened.{Happened}
use Rattle.totals.specs.declared.Tally.{Tally}
use Rattle.totals.specs.declared.Name.{Name}
use Rattle.totals.specs.Totals.{order, size, name_at, counts, next_total, nexts, most_counted, full, first_full, counted_in, totals_of, blank, counted_all}
use Rattle.totals.specs.declared.Name.TheVariants.{MostCars}
use Rattle.totals.specs.Promises.{OrderWhole, tally, largest, TotalsRight, MostCarsRight, NoneFullExactly, Stops, FullStops}
use Rattle.totals.proofs.Order.{order_length, most_cars_at, nexts_length, after_at}
use Rattle.totals.proofs.Counting.{next_count}
use Rattle.totals.proofs.Steps.{some_none}

tally_append : (x : Name) (gs hs : List Happened) → tally x (gs ++ hs) ≡ tally x gs + tally x hs
unfolding tally
tally_append x [] hs = omega arith
tally_append x (g ∷ gs) hs = omega (arith, tally_append x gs hs)

tally_one : (x : Name) (h : Happened) → tally x (h ∷ []) ≡ digit (counts x h)
unfolding tally
tally_one x h = omega arith

largest_more : (hs : List Happened) (h : Happened) → largest (hs ++ h ∷ []) ≡ max (largest hs) h.cars
unfolding largest
largest_more [] h = omega arith
largest_more (g ∷ hs) h = omega (arith, largest_more hs h)

-- the totals after some happenings, of which none made one pass the most
record Right (hs : List Happened) (t : Totals) : Type 0 where
  same : length t.counts ≡ size
  each : (p : ℕ) → p < 51 → get_or t.counts p 0 ≡ tally (name_at p) hs
  cars : get_or t.counts 51 0 ≡ largest hs
  low : (p : ℕ) → p < size → tally (name_at p) hs ≤ most_counted

right_start : Right [] blank
unfolding tally largest
right_start = record {
  same = refl;
  each = λ p l. get_or-replicate size p 0 0 (omega arith);
  cars = refl;
  low = λ p l. omega arith;
}

-- the most cars are no count
no_count : (h : Happened) → counts (name_at 51) h ≡ false
no_count h = ap (λ n. counts n h) most_cars_at

no_tally : (hs : List Happened) → tally MostCars hs ≡ 0
unfolding tally
no_tally [] = refl
no_tally (h ∷ hs) = omega (arith, no_tally hs)

-- one more passes the most exactly if it counts where the most is reached
passing : (b : Bool) (v : ℕ) → v ≤ most_counted → b && leb most_counted v ≡ ltb most_counted (v + digit b)
passing true v l = split (leb most_counted v)
    (λ t. t ∙ sym (lt-ltb most_counted (v + 1) (let z = leb-true most_counted v t in omega arith)))
    (λ t. t ∙ sym (le-ltb most_counted (v + 1) (let z = leb-false most_counted v t in omega arith)))
passing false v l = sym (le-ltb most_counted (v + 0) (omega arith))

module _ (hs : List Happened) (t : Totals) (r : Right hs t) (h : Happened) where
  after_one : (p : ℕ) → tally (name_at p) (hs ++ h ∷ []) ≡ tally (name_at p) hs + digit (counts (name_at p) h)
  after_one p = tally_append (name_at p) hs (h ∷ []) ∙ ap (λ (n : ℕ). tally (name_at p) hs + n) (tally_one (name_at p) h)

  -- a total is full exactly if the number of those that count would pass the most
  full_exactly : (p : ℕ) → p < size → full t h p ≡ ltb most_counted (tally (name_at p) (hs ++ h ∷ []))
  full_exactly p l = go (lt_or_ge p 51)
    where
      go : (p < 51) ⊎ (51 ≤ p) → full t h p ≡ ltb most_counted (tally (name_at p) (hs ++ h ∷ []))
      go (inl b) =
          ap (λ (v : ℕ). counts (name_at p) h && leb most_counted v) (r.each p b) ∙ passing (counts (name_at p) h) (tally (name_at p) hs) (r.low p l)
          ∙ ap (ltb most_counted) (sym (after_one p))
      go (inr b) =
          let e : p ≡ 51 = omega arith in
          rw (e, no_count h) (sym (le-ltb most_counted (tally (name_at 51) (hs ++ h ∷ [])) (rw most_cars_at (omega (arith, no_tally (hs ++ h ∷ []))))))

  -- none is full: the totals after one more
  right_next : first_full t h ≡ size → Right (hs ++ h ∷ []) (totals_of (nexts order h t.counts))
  right_next e = record {
    same = nexts_length order h t.counts ∙ r.same;
    each = λ p l. after_at h t.counts p (omega arith) (omega (arith, r.same)) ∙ next_count h p (get_or t.counts p 0) l
        ∙ ap (λ (v : ℕ). v + digit (counts (name_at p) h)) (r.each p l) ∙ sym (after_one p);
    cars = after_at h t.counts 51 (omega arith) (omega (arith, r.same)) ∙ ap (λ n. next_total n h (get_or t.counts 51 0)) most_cars_at
        ∙ ap (λ (v : ℕ). max v h.cars) r.cars ∙ sym (largest_more hs h);
    low = λ p l. ltb-false most_counted (tally (name_at p) (hs ++ h ∷ [])) (sym (full_exactly p l) ∙ least_below size (full t h) p (omega arith));
  }

  -- one is: the first whose number would pass the most
  first_full_lem : first_full t h < size → IsLeast size (λ p. ltb most_counted (tally (name_at p) (hs ++ h ∷ []))) (first_full t h)
  first_full_lem l =
      let found = found_least size (full t h) l in
      record {
        within = l;
        passes = sym (full_exactly (first_full t h) l) ∙ found.passes;
        none = λ p b. sym (full_exactly p (omega arith)) ∙ found.none p b;
      }

-- how a run of happenings ends, after others: with all counted, or at one that makes a total full
data Ends (gs : List Happened) (t : Totals) (hs : List Happened) (c : Tally) : Type 0 where
  counted : c.full ≡ None → Right (gs ++ hs) c.totals → Ends gs t hs c
  stopped : (before : List Happened) (last : Happened) (rest : List Happened) → hs ≡ before ++ last ∷ rest
      → counted_all t before ≡ record { totals = c.totals; full = None }
      → (place : ℕ) → c.full ≡ Some place
      → IsLeast size (λ p. ltb most_counted (tally (name_at p) ((gs ++ before) ++ last ∷ []))) place → Ends gs t hs c

module _ (t : Totals) (h : Happened) (hs : List Happened) where
  goes_on : ltb (first_full t h) size ≡ false → counted_all t (h ∷ hs) ≡ counted_all (totals_of (nexts order h t.counts)) hs
  unfolding counted_all counted_in
  goes_on e = simp e

  stops_here : ltb (first_full t h) size ≡ true → counted_all t (h ∷ hs) ≡ record { totals = t; full = Some (first_full t h) }
  unfolding counted_all counted_in
  stops_here e = simp e

ends : (gs hs : List Happened) (t : Totals) → Right gs t → Ends gs t hs (counted_all t hs)
unfolding counted_all
ends gs [] t r = counted refl (rw append-nil r)
ends gs (h ∷ hs) t r =
    split (ltb (first_full t h) size) stop
    (λ e. go e (ends (gs ++ h ∷ []) hs (totals_of (nexts order h t.counts)) (right_next gs t r h (none e))))
  where
    none : ltb (first_full t h) size ≡ false → first_full t h ≡ size
    none e = let z = ltb-false (first_full t h) size e in omega (arith, least_le size (full t h))

    stop : ltb (first_full t h) size ≡ true → Ends gs t (h ∷ hs) (counted_all t (h ∷ hs))
    stop e = rw (stops_here t h hs e) (stopped [] h hs refl refl (first_full t h) refl (rw append-nil (first_full_lem gs t r h (ltb-true (first_full t h) size e))))

    go : ltb (first_full t h) size ≡ false → Ends (gs ++ h ∷ []) (totals_of (nexts order h t.counts)) hs
        (counted_all (totals_of (nexts order h t.counts)) hs)
        → Ends gs t (h ∷ hs) (counted_all t (h ∷ hs))
    go e (counted f q) = rw (goes_on t h hs e) (counted f (rw append_assoc at q))
    go e (stopped before last rest a b p told l) =
        rw (goes_on t h hs e) (stopped (h ∷ before) last rest (ap (λ k. h ∷ k) a) (goes_on t h before e ∙ b) p told
        (rw (append_assoc gs (h ∷ []) before) at l))

-- ---- the promises

right_end : (hs : List Happened) → (counted_all blank hs).full ≡ None → Right hs (counted_all blank hs).totals
right_end hs e = go (ends [] hs blank right_start)
  where
    go : Ends [] blank hs (counted_all blank hs) → Right hs (counted_all blank hs).totals
    go (counted f r) = r
    go (stopped before last rest a b p told l) = absurd (some_none p (sym told ∙ e))

pub order_whole : OrderWhole
order_whole = order_length

pub totals_right : TotalsRight
totals_right hs e p l = (right_end hs e).each p l

pub most_cars_right : MostCarsRight
most_cars_right hs e = (right_end hs e).cars

pub none_full_exactly : NoneFullExactly
none_full_exactly hs = (λ e. (right_end hs e).low, λ low. go low (ends [] hs blank right_start))
  where
    go : ((p : ℕ) → p < size → tally (name_at p) hs ≤ most_counted) → Ends [] blank hs (counted_all blank hs) → (counted_all blank hs).full ≡ None
    go low (counted f r) = f
    go low (stopped before last rest a b p told l) =
        let n = name_at p in
        let passed = ltb-true most_counted (tally n (before ++ last ∷ [])) l.passes in
        let whole : tally n hs ≡ tally n (before ++ last ∷ []) + tally n rest = ap (tally n) (a ∙ sym (append_assoc before (last ∷ []) rest))
        ∙ tally_append n (before ++ last ∷ []) rest in
        absurd (omega (arith, low p l.within))

pub full_stops : FullStops
full_stops hs e = go (ends [] hs blank right_start)
  where
    go : Ends [] blank hs (counted_all blank hs) → Stops hs (counted_all blank hs)
    go (counted f r) = absurd (e f)
    go (stopped before last rest a b p told l) = record {
      before = before;
      last = last;
      rest = rest;
      all = a;
      none = ap (λ (c : Tally). c.full) b;
      totals = sym (ap (λ (c : Tally). c.totals) b);
      place = p;
      told = told;
      first = l;
    }
