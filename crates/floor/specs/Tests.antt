-- What can be asked of a record, and what can be changed in it. A test is data, so that the places that it reads can be listed;
-- a change gives bits of the next record by tests of the present one. Assumes nothing.
use Rattle.std.specs.Prelude.{Bool, true, cond, not, ◌&&◌, ◌||◌, List, [], ◌∷◌, ℕ, ◌%◌, eqb}
use Rattle.bits.specs.Bits.{Bits, bit, count, all_set}
use Rattle.floor.specs.Floor.{height_low, height_high, basement, drives}

-- what is asked: what needs no record; each bit at these places is 1; n of them are; an even number of them is; and their combinations
pub data Test : Type 0 where
  fact : Bool → Test
  set : List ℕ → Test
  exactly : ℕ → List ℕ → Test
  even : List ℕ → Test
  no : Test → Test
  both either : Test → Test → Test

-- whether a record passes
abbrev pub holds : Test → Bits → Bool
holds (fact b) f = b
holds (set ks) f = all_set ks f
holds (exactly n ks) f = eqb (count ks f) n
holds (even ks) f = eqb (count ks f % 2) 0
holds (no t) f = not (holds t f)
holds (both t u) f = holds t f && holds u f
holds (either t u) f = holds t f || holds u f

-- whether it passes each of a list
abbrev pub all_hold : List Test → Bits → Bool
all_hold [] f = true
all_hold (t ∷ ts) f = holds t f && all_hold ts f

-- none of the bits at these places is 1
abbrev pub free : List ℕ → Test
free ks = exactly 0 ks

-- a test that counts only where b
abbrev pub when : Bool → Test → Test
when b t = cond b t (fact true)

-- one test where c passes, another where it doesn't
abbrev pub choose : Test → Test → Test → Test
choose c t u = either (both c t) (both (no c) u)

-- the lift is at a height
abbrev pub height_is : ℕ → Test
height_is h =
    both (cond (bit h 0) (set (height_low ∷ [])) (free (height_low ∷ [])))
    (cond (bit h 1) (set (height_high ∷ [])) (free (height_high ∷ [])))

abbrev pub at_basement : Test
at_basement = height_is basement

-- a drive is under way
abbrev pub under_way : Test
under_way = no (free drives)

-- one bit of the next record: its place, and the test of the present record that gives it
pub data Change : Type 0 where
  ◌≔◌ : ℕ → Test → Change

infix 80 ◌≔◌
-- the record with all changes made at once
abbrev pub changed : List Change → Bits → Bits
changed [] f k = f k
changed ((j ≔ t) ∷ cs) f k = cond (eqb j k) (holds t f) (changed cs f k)
