-- The report's totals: their names in the report's order, which messages count under each, and the totals after one message and after
-- many. Assumes nothing.
use Rattle.std.specs.Prelude.{◌≡◌, Bool, false, cond, not, ◌&&◌, List, [], ◌∷◌, ◌++◌, map, ℕ, ◌+◌, max, eqb, leb, ltb, get_or, replicate, is_none}
use Rattle.bits.specs.Bits.{digit}
use Rattle.bits.specs.Places.{from}
use Rattle.bits.specs.Search.{least}
use Rattle.std.specs.declared.option.Option.{Option}
use Rattle.std.specs.declared.option.Option.TheVariants.{Some, None}
use Rattle.totals.specs.declared.Name.{Name}
use Rattle.totals.specs.declared.Name.TheVariants.{Kind, Number, Done, Failed, CarsIn, CarsOut, MostCars}
use Rattle.totals.specs.declared.Totals.{Totals}
use Rattle.totals.specs.declared.Happened.{Happened}
use Rattle.totals.specs.declared.Tally.{Tally}

-- the report's order; a number has its place whether or not it is in force
unfoldable pub order : List Name
order = map Kind (from 1 5) ++ map Number (from 0 34) ++ map Done (from 1 5) ++ map Failed (from 1 5) ++ (CarsIn ∷ CarsOut ∷ MostCars ∷ [])

-- how many totals there are
abbrev pub size : ℕ
size = 52

-- the total that stands at a place, from 0
unfoldable pub name_at : ℕ → Name
name_at p = get_or order p MostCars

-- whether what happened counts under a name: a result is done or counts as failed; the most cars are no count
abbrev pub counts : Name → Happened → Bool
counts (Kind k) h = eqb h.kind k
counts (Number n) h = eqb h.answer n
counts (Done op) h = h.done && eqb h.op op
counts (Failed op) h = not h.done && eqb h.op op
counts CarsIn h = eqb h.drive 1
counts CarsOut h = eqb h.drive 2
counts MostCars h = false

-- a total after what happened, from what it was: one more where it counts; the most cars as many as there are now, if they are more
abbrev pub next_total : Name → Happened → ℕ → ℕ
next_total (Kind k) h v = v + digit (counts (Kind k) h)
next_total (Number n) h v = v + digit (counts (Number n) h)
next_total (Done op) h v = v + digit (counts (Done op) h)
next_total (Failed op) h v = v + digit (counts (Failed op) h)
next_total CarsIn h v = v + digit (counts CarsIn h)
next_total CarsOut h v = v + digit (counts CarsOut h)
next_total MostCars h v = max v h.cars

-- all totals after what happened, each by its name
unfoldable pub nexts : List Name → Happened → List ℕ → List ℕ
nexts [] h vs = vs
nexts (x ∷ xs) h [] = []
nexts (x ∷ xs) h (v ∷ vs) = next_total x h v ∷ nexts xs h vs

-- the totals whose numbers are these
abbrev pub totals_of : List ℕ → Totals
totals_of c = record { counts = c }

-- the most that a total holds
abbrev pub most_counted : ℕ
most_counted = 4294967295

-- whether the total at a place is about to pass the most
abbrev pub full : Totals → Happened → ℕ → Bool
full t h p = counts (name_at p) h && leb most_counted (get_or t.counts p 0)

-- the first place in order at which one is; the number of totals where none is
abbrev pub first_full : Totals → Happened → ℕ
first_full t h = least size (full t h)

-- what happened counted in the totals: where one is full all stay, and its place is told
unfoldable pub counted_in : Totals → Happened → Tally
counted_in t h =
    cond (ltb (first_full t h) size)
    (record { totals = t; full = Some (first_full t h) })
    (record { totals = totals_of (nexts order h t.counts); full = None })

-- what a call that counts in lent totals leaves: the place that it tells, and the totals
pub record LeavesTotals (c : Tally) (place : Option ℕ) (after : Totals) : Type 0 where
  pub full : place ≡ c.full
  pub totals : after ≡ c.totals

-- the same where the numbers alone are lent
pub record LeavesCounts (c : Tally) (place : Option ℕ) (after : List ℕ) : Type 0 where
  pub full : place ≡ c.full
  pub counts : after ≡ c.totals.counts

-- the totals before anything happened
abbrev pub blank : Totals
blank = totals_of (replicate size 0)

-- all that happened counted, one after another, up to the first at which a total is full
unfoldable pub counted_all : Totals → List Happened → Tally
counted_all t [] = record { totals = t; full = None }
counted_all t (h ∷ hs) =
    let c = counted_in t h in
    cond (is_none c.full) (counted_all c.totals hs) c
