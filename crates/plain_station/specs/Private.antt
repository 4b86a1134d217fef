-- What the contracts of private functions cite; no public one rests on it. Assumes nothing.
use Rattle.std.specs.Prelude.{ℕ, Bool, true, false, cond, nat_lt, List, length, set, replicate, slice_index_or}
use Rattle.std.specs.declared.option.Option.{Option}
use Rattle.std.specs.declared.option.Option.TheVariants.{Some, None}
use Rattle.std.specs.declared.result.Result.{Result}
use Rattle.std.specs.declared.result.Result.TheVariants.{Ok, Err}
use Rattle.bits.specs.Search.{every, least}
use Rattle.answers.specs.declared.Answer.{Answer}
use Rattle.answers.specs.declared.Answer.TheVariants.{EventImpossible, KeptOpen}
use Rattle.rules.specs.declared.Event.{Event}
use Rattle.rules.specs.Events.{possible}
use Rattle.plain.specs.declared.Floor.{Floor}
use Rattle.plain.specs.Plain.{plain_bits}
use Rattle.plain.specs.Walks.{walked}
use Rattle.plain_moves.specs.declared.Parts.{Parts}
use Rattle.plain_moves.specs.Moves.{driven_floor, opens_with}
use Rattle.plain_station.specs.declared.Plain.{Plain}
use Rattle.plain_station.specs.declared.PlainOutcome.{PlainOutcome}
use Rattle.plain_station.specs.Plain.{refused_plain, on_floor}

-- what a call hands back: what it has made, or the station as it was, and why
abbrev pub handed : Plain → Result PlainOutcome Answer → PlainOutcome
handed p (Ok o) = o
handed p (Err a) = refused_plain p a

-- the least number below n that passes, if there is one
abbrev pub first : ℕ → (ℕ → Bool) → Option ℕ
first n p = cond (nat_lt (least n p) n) (Some (least n p)) None

-- each of the first n is answered
unfoldable pub all_answered : List Bool → ℕ → Bool
all_answered marks n = every n (λ j. slice_index_or marks j false)

-- instruction i answered, the floor now f, and these parts set apart; with the last of them the station holds no instruction and no mark
unfoldable pub plain_answering : Plain → ℕ → Floor → Parts → Plain
plain_answering p i f apart =
    let marks = set p.answered i true in
    cond (all_answered marks p.count)
    (record { floor = f; apart = apart; count = 0; answered = replicate 8 false; set = replicate 40 0; next = p.next })
    (record { floor = f; apart = apart; count = p.count; answered = marks; set = p.set; next = p.next })

-- the end of a car event that comes in turn, with no part of the lift set apart
unfoldable pub plain_entered : Plain → Event → PlainOutcome
plain_entered p e =
    let f = plain_bits p.floor in
    cond (possible e f)
    (cond (opens_with e (length (walked f))) (on_floor p (driven_floor e p.floor)) (refused_plain p KeptOpen))
    (refused_plain p EventImpossible)
