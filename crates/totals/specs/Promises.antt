-- What is promised of totals in which all that happened is counted, one message after another. Proved in proofs/Promises.antt.
-- Assumes nothing.
use Rattle.std.specs.Prelude.{◌≡◌, ◌↔◌, List, [], ◌∷◌, ◌++◌, ℕ, ◌+◌, ◌≤◌, ◌<◌, max, ltb, length, get_or}
use Rattle.bits.specs.Bits.{digit}
use Rattle.bits.specs.Search.{IsLeast}
use Rattle.std.specs.declared.option.Option.TheVariants.{Some, None}
use Rattle.totals.specs.declared.Name.{Name}
use Rattle.totals.specs.declared.Happened.{Happened}
use Rattle.totals.specs.declared.Tally.{Tally}
use Rattle.totals.specs.Totals.{order, size, name_at, counts, most_counted, blank, counted_all}

-- the order has as many names as there are totals
abbrev pub OrderWhole : Type 0
OrderWhole = length order ≡ size

-- how many of some happenings count under a name
unfoldable pub tally : Name → List Happened → ℕ
tally x [] = 0
tally x (h ∷ hs) = digit (counts x h) + tally x hs

-- the largest number of cars after any of them; 0 of none
unfoldable pub largest : List Happened → ℕ
largest [] = 0
largest (h ∷ hs) = max h.cars (largest hs)

-- where no total is full, each but the last is the number of happenings that count under its name
abbrev pub TotalsRight : Type 0
TotalsRight = (hs : List Happened) → (counted_all blank hs).full ≡ None → (p : ℕ) → p < 51
    → get_or (counted_all blank hs).totals.counts p 0 ≡ tally (name_at p) hs

-- where no total is full, the last one, the most cars, is the largest number of cars
abbrev pub MostCarsRight : Type 0
MostCarsRight = (hs : List Happened) → (counted_all blank hs).full ≡ None → get_or (counted_all blank hs).totals.counts 51 0 ≡ largest hs

-- no total is full exactly if under no name more happenings count than the most
abbrev pub NoneFullExactly : Type 0
NoneFullExactly = (hs : List Happened) → ((counted_all blank hs).full ≡ None) ↔ ((p : ℕ) → p < size → tally (name_at p) hs ≤ most_counted)

-- a run that stops: at the first that would make a number pass the most, with the totals of those before it, and the first such name told
pub record Stops (hs : List Happened) (c : Tally) : Type 0 where
  pub before : List Happened
  pub last : Happened
  pub rest : List Happened
  pub all : hs ≡ before ++ last ∷ rest
  pub none : (counted_all blank before).full ≡ None
  pub totals : c.totals ≡ (counted_all blank before).totals
  pub place : ℕ
  pub told : c.full ≡ Some place
  pub first : IsLeast size (λ p. ltb most_counted (tally (name_at p) (before ++ last ∷ []))) place

-- where a total is full, counting has stopped before the first happening that would make one pass the most, and the first such is named
abbrev pub FullStops : Type 0
FullStops = (hs : List Happened) → ((counted_all blank hs).full ≡ None → ⊥) → Stops hs (counted_all blank hs)
