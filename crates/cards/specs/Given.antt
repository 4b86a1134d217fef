-- The numbers that come with an image: one for each car in the order of the cells, the raised lift last, and after it that of a drive-in
-- under way. Assumes nothing.
use Rattle.std.specs.Prelude.{◌≡◌, Bool, not, cond, ◌&&◌, ◌||◌, List, ℕ, ◌+◌, ◌%◌, ◌<◌, eqb, ltb, length, get_or}
use Rattle.bits.specs.Bits.{Bits, bit, digit, count}
use Rattle.bits.specs.Places.{from}
use Rattle.bits.specs.Search.{some}
use Rattle.floor.specs.Floor.{raised_car, drive_in}
use Rattle.floor.specs.Sound.{total, cars_in}
use Rattle.std.specs.declared.result.Result.{Result}
use Rattle.std.specs.declared.result.Result.TheVariants.{Ok, Err}
use Rattle.cards.specs.declared.GivenError.{GivenError}
use Rattle.cards.specs.declared.GivenError.TheVariants.{WrongCount, ZeroNumber, TwiceGiven}
use Rattle.cards.specs.Cards.{Numbers}

-- a number stands at place k: in row 1 at an occupied cell with an even number of occupied cells below it, in rows 2 and 3 at each occupied
-- cell, on the raised lift if a car is there, and waiting while a drive-in is under way
abbrev pub bears : Bits → Bits
bears f k = cond (ltb k 20) (f k && eqb (count (from 0 k) f % 2) 0) ((ltb k 40 || (eqb raised_car k || eqb drive_in k)) && f k)

-- the numbers ns given to these places in their order
unfoldable pub numbers_given : Bits → List ℕ → Numbers
numbers_given f ns k = cond (bears f k) (get_or ns (count (from 0 k) (bears f)) 0) 0

-- ---- whether an image's numbers can be taken

-- how many numbers an image comes with: as many as cars, one more with a drive-in under way
abbrev pub wanted : ℕ → ℕ
wanted r = cars_in (total r) + digit (bit r drive_in)

-- number j of a list is zero; is among those before it
abbrev pub zero_at : List ℕ → ℕ → Bool
zero_at ns j = eqb (get_or ns j 0) 0

abbrev pub twice_at : List ℕ → ℕ → Bool
twice_at ns j = some j (λ i. eqb (get_or ns i 0) (get_or ns j 0))

-- of n numbers with an image: not that many, else one of them zero, else one given twice, else fine
unfoldable pub given_as : ℕ → ℕ → List ℕ → Result (Unit {0}) GivenError
given_as r n ns =
    cond (not (eqb n (wanted r))) (Err WrongCount)
    (cond (some n (zero_at ns)) (Err ZeroNumber)
    (cond (some n (twice_at ns)) (Err TwiceGiven)
    (Ok tt)))

-- ---- what is said of them

-- each is other than 0 and there once
pub record AllNew (ns : List ℕ) : Type 0 where
  pub nonzero : (i : ℕ) → i < length ns → get_or ns i 0 ≡ 0 → ⊥
  pub once : (i j : ℕ) → i < length ns → j < length ns → get_or ns i 0 ≡ get_or ns j 0 → i ≡ j
