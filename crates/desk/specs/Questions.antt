-- What the desk is asked: where a card's car is, and which card is leaving. Assumes nothing.
use Rattle.std.specs.Prelude.{Bool, cond, not, ◌&&◌, ◌||◌, ℕ, suc, eqb, ltb}
use Rattle.std.specs.declared.option.Option.{Option}
use Rattle.std.specs.declared.option.Option.TheVariants.{Some, None}
use Rattle.std.specs.declared.result.Result.{Result}
use Rattle.std.specs.declared.result.Result.TheVariants.{Ok, Err}
use Rattle.bits.specs.Bits.{Bits, bit}
use Rattle.bits.specs.Places.{elem}
use Rattle.bits.specs.Search.{least}
use Rattle.floor.specs.Floor.{raised_car, drive_out}
use Rattle.station.specs.declared.Station.{Station}
use Rattle.station.specs.Held.{code_at, held_area}
use Rattle.station.specs.Station.{marked}
use Rattle.cards.specs.Following.{no_source}
use Rattle.cards.specs.Held.{numbers_in, code_cards, where_is}
use Rattle.desk.specs.declared.Desk.{Desk}
use Rattle.desk.specs.declared.Whereabouts.{Whereabouts}
use Rattle.desk.specs.declared.Whereabouts.TheVariants.{At, LastKnown, Moving, NotHere}
use Rattle.desk.specs.declared.AskError.{AskError}
use Rattle.desk.specs.declared.AskError.TheVariants.{Unfit}
use Rattle.desk.specs.Desk.{desk_fit}

-- of the car whose number stands at place k one of these parts is under it: its cell, in row 1 either of its two, or the lift
abbrev pub is_under : Bits → ℕ → Bool
is_under parts k = parts k || (ltb k 20 && parts (suc k))

-- the first instruction that waits for its result and has a part under that car in its area; if there is none, as many as the set has
unfoldable pub mover_of : Station → ℕ → ℕ
mover_of s k = least s.count (λ i. not (marked s i) && is_under (λ j. elem j (held_area (code_at s.set i))) k)

-- the place that the number c would get if instruction i of the set were done now
abbrev pub place_after : Desk → ℕ → ℕ → ℕ
place_after d i c = where_is (code_cards (code_at d.station.set i) d.station.bits d.numbers) c

-- what is told of the number c, whose place is k: it is not here; a part under its car is set apart, and k is the last place that is known;
-- one is in the area of an instruction that waits, which would bring it to another; or it is there for sure
unfoldable pub place_known : Desk → ℕ → ℕ → Whereabouts
place_known d c k =
    let s = d.station in
    cond (eqb k no_source) NotHere
    (cond (is_under (bit s.apart) k) (LastKnown k)
    (cond (ltb (mover_of s k) s.count) (Moving k (place_after d (mover_of s k) c))
    (At k)))

-- where the car with the number c is; a desk that isn't fit tells nothing
unfoldable pub whereabouts : Desk → ℕ → Result Whereabouts AskError
whereabouts d c = cond (desk_fit d) (Ok (place_known d c (where_is d.numbers c))) (Err Unfit)

-- which card is leaving: the number on the raised lift while a drive-out is under way
unfoldable pub leaving : Desk → Result (Option ℕ) AskError
leaving d = cond (desk_fit d) (Ok (cond (bit d.station.bits drive_out) (Some (numbers_in d.numbers raised_car)) None)) (Err Unfit)
