-- What the contracts of private functions cite; no public one rests on it. The verdict by a reason, the bits of the lift, and belts by areas
-- that are looked up. Assumes nothing.
use Rattle.std.specs.Prelude.{Bool, cond, not, ◌&&◌, List, [], ◌∷◌, ◌++◌, ℕ, ◌%◌, eqb, leb}
use Rattle.std.specs.Int.Bits.{bit_and}
use Rattle.std.specs.declared.option.Option.{Option}
use Rattle.std.specs.declared.option.Option.TheVariants.{Some, None}
use Rattle.std.specs.declared.result.Result.TheVariants.{Ok, Err}
use Rattle.bits.specs.Bits.{bit, count}
use Rattle.bits.specs.Places.{places}
use Rattle.floor.specs.Floor.{lift_cells, raised_car, height_low, height_high, basement}
use Rattle.answers.specs.declared.Reason.{Reason}
use Rattle.rules.specs.declared.Code.{Code}
use Rattle.rules.specs.declared.Refusal.{Refusal}
use Rattle.rules.specs.Rules.{belts_named}
use Rattle.rules.specs.Verdicts.{Verdict}
use Rattle.areas.specs.Private.{belts_mask}
use Rattle.rows.specs.Private.{gaps, others, cells_of_area, first_in, span_within}

-- the verdict by the reason against it: allowed where there is none
abbrev pub verdict_by : Option Reason → Verdict
verdict_by None = Ok tt
verdict_by (Some why) = Err (Refusal.NotAllowed why)

-- the lift at a height, with a car or without: in the basement the car stands on its two cells
abbrev pub lift_bits : ℕ → Bool → List ℕ
lift_bits height car =
    cond car (cond (eqb height basement) lift_cells (raised_car ∷ [])) []
    ++ cond (bit height 0) (height_low ∷ []) []
    ++ cond (bit height 1) (height_high ∷ []) []

-- belts of a row, at least one and without a gap, and their area
abbrev pub runs : ℕ → ℕ → ℕ → Bool
runs row mask a = belts_named row mask && not (eqb mask 0) && not (gaps mask) && eqb a (belts_mask row mask)

-- the same of five bytes
abbrev pub code_runs : Code → ℕ → Bool
code_runs x a = eqb x.op 1 && leb x.c 1 && leb x.d 1 && runs x.a x.b a

-- the room of belts with this area that go this way by n cells
abbrev pub room_in : ℕ → ℕ → ℕ → ℕ
room_in a toward n = bit_and (cells_of_area a) (others (span_within (cells_of_area a) toward n))

-- a record has the bits that they need, their room is free, and row 1 holds pairs
abbrev pub fitting : ℕ → ℕ → ℕ → ℕ → Bool
fitting a toward n r =
    eqb (bit_and r (bit_and a 0x6FFF0000000000)) (bit_and a 0x4FFF0000000000) && eqb (bit_and r (room_in a toward n)) 0
    && eqb (count (places (first_in a)) (bit r) % 2) 0

-- five bytes say a run of the lift
abbrev pub code_lifts : Code → Bool
code_lifts x = eqb x.op 4 && leb x.a 2 && eqb x.b 0 && eqb x.c 0 && eqb x.d 0
