-- When a record is sound, clause by clause as documents 01 and 02 have it, and the test that decides it. Assumes nothing.
use Rattle.std.specs.Prelude.{◌≡◌, Bool, true, false, not, cond, ◌&&◌, List, [], ◌∷◌, ◌++◌, ℕ, zero, suc}
use Rattle.bits.specs.Bits.{Bits, bit}
use Rattle.floor.specs.Floor.{left, right, lowered, tilted, slot, place, raised_car, street, lift_cells, drive_in, drive_out, drives, spare}
use Rattle.floor.specs.Tests.{Test, set, free, exactly, no, both, either, all_hold, height_is, at_basement}
use Rattle.floor.specs.Cars.{Car, Layout, cars}
use Rattle.std.specs.declared.option.Option.{Option}
use Rattle.std.specs.declared.option.Option.TheVariants.{Some, None}

-- a shuttle's cell is occupied only if a lowered shuttle is there
abbrev pub carried_by_shuttle : ℕ → ℕ → Test
carried_by_shuttle side row = either (free (place side row)) (set (slot side lowered row ∷ []))

-- cells 11 and 12 are occupied only at basement height; the raised lift is only at the others
abbrev pub on_lift : Test
on_lift = either (free lift_cells) at_basement

abbrev pub on_raised_lift : Test
on_raised_lift = either (free (raised_car ∷ [])) (no at_basement)

-- the slots of a side in one orientation
abbrev pub slots : ℕ → ℕ → List ℕ
slots side orientation = slot side orientation 1 ∷ slot side orientation 2 ∷ slot side orientation 3 ∷ []

-- each side has three shuttles in all, at most one tilted
abbrev pub three_shuttles : ℕ → Test
three_shuttles side =
    both (exactly 3 (slots side lowered ++ slots side tilted))
    (either (free (slots side tilted)) (exactly 1 (slots side tilted)))

-- a drive is under way at street height only; in only with the raised lift empty, out only with a car on it
abbrev pub drives_at_street : Test
drives_at_street = either (free drives) (height_is street)

abbrev pub drives_into_empty : Test
drives_into_empty = either (free (drive_in ∷ [])) (free (raised_car ∷ []))

abbrev pub drives_out_of_full : Test
drives_out_of_full = either (free (drive_out ∷ [])) (set (raised_car ∷ []))

-- what a sound record keeps besides its layout; of drives, at most one is under way
abbrev pub sound_rules : List Test
sound_rules =
    carried_by_shuttle left 1 ∷ carried_by_shuttle left 2 ∷ carried_by_shuttle left 3 ∷ carried_by_shuttle right 1 ∷ carried_by_shuttle right 2 ∷ carried_by_shuttle right 3
    ∷ on_lift ∷ on_raised_lift
    ∷ three_shuttles left ∷ three_shuttles right
    ∷ no (height_is 3)
    ∷ free spare
    ∷ no (set drives) ∷ drives_at_street ∷ drives_into_empty ∷ drives_out_of_full
    ∷ []

-- a record is sound if a layout of cars exists and these rules hold
pub record Sound (f : Bits) : Type 0 where
  pub layout : (l : List Car) × Layout f l
  pub rules : all_hold sound_rules f ≡ true

-- ---- the test that decides it

-- row 1 splits into pairs of neighbouring occupied cells: n cells from k on, where half says that the cell before k is the lower half of a car
unfoldable pub paired : ℕ → ℕ → Bool → Bits → Bool
paired zero k half f = not half
paired (suc n) k false f = paired n (suc k) (f k) f
paired (suc n) k true f = f k && paired n (suc k) false f

-- whether the record with this image is sound
unfoldable pub sound : ℕ → Bool
sound r = paired 20 0 false (bit r) && all_hold sound_rules (bit r)

-- how many cars it has: told of sound records only
unfoldable pub total : ℕ → Option ℕ
total r = cond (sound r) (Some (cars (bit r))) None

-- how many cars a total says, none where the record isn't sound
abbrev pub cars_in : Option ℕ → ℕ
cars_in (Some n) = n
cars_in None = 0
