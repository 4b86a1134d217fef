-- The desk's calls: what the station says comes first, then the desk's own refusals; numbers follow cars where a call is taken, and not
-- otherwise. Assumes nothing.
use Rattle.std.specs.Prelude.{cond, List, ℕ, eqb}
use Rattle.std.specs.declared.option.Option.{Option}
use Rattle.std.specs.declared.option.Option.TheVariants.{Some, None}
use Rattle.rules.specs.declared.Event.{Event}
use Rattle.rules.specs.declared.Event.TheVariants.{BeginIn}
use Rattle.rules.specs.Codes.{read_event}
use Rattle.answers.specs.declared.Answer.TheVariants.{Taken, Unfit}
use Rattle.station.specs.declared.Outcome.{Outcome}
use Rattle.station.specs.declared.Report.{Report}
use Rattle.station.specs.declared.Picture.{Picture}
use Rattle.station.specs.Held.{code_at}
use Rattle.station.specs.Calls as station
use Rattle.std.specs.declared.result.Result.{Result}
use Rattle.std.specs.declared.result.Result.TheVariants.{Ok, Err}
use Rattle.cards.specs.declared.GivenError.{GivenError}
use Rattle.cards.specs.declared.GivenError.TheVariants as given
use Rattle.cards.specs.Given.{given_as}
use Rattle.cards.specs.Held.{code_cards, cards_driven, cards_given, is_known}
use Rattle.desk.specs.declared.Desk.{Desk}
use Rattle.desk.specs.declared.DeskOutcome.{DeskOutcome}
use Rattle.desk.specs.declared.Reply.{Reply}
use Rattle.desk.specs.declared.Reply.TheVariants.{Told, ZeroNumber, KnownNumber, WrongCount}
use Rattle.desk.specs.Desk.{desk_fit, is_taken}

-- the desk as it was, and what is answered
abbrev pub desk_refused : Desk → Reply → DeskOutcome
desk_refused d a = record { desk = d; reply = a }

-- a call on a desk that isn't fit is refused before all else
abbrev pub on_fit_desk : Desk → DeskOutcome → DeskOutcome
on_fit_desk d o = cond (desk_fit d) o (desk_refused d (Told Unfit))

-- what the station says comes first: where it refuses, the desk is as it was; where it takes the call, so it goes on
abbrev pub where_taken : Desk → Outcome → DeskOutcome → DeskOutcome
where_taken d o p = cond (is_taken o.answer) p (desk_refused d (Told o.answer))

-- the station's answer, its station, and these numbers
abbrev pub desk_holding : Outcome → List ℕ → DeskOutcome
desk_holding o a = record { desk = record { station = o.station; numbers = a }; reply = Told o.answer }

-- the station's call, and these numbers where it is taken
abbrev pub desk_following : Desk → Outcome → List ℕ → DeskOutcome
desk_following d o a = where_taken d o (desk_holding o a)

-- a request moves no number
unfoldable pub desk_request : Desk → ℕ → List ℕ → DeskOutcome
desk_request d n set = on_fit_desk d (desk_following d (station.requested d.station n set) d.numbers)

-- a result: with a success the numbers follow the instruction on the record before it
unfoldable pub desk_result : Desk → Report → DeskOutcome
desk_result d r =
    on_fit_desk d
    (desk_following d (station.resulted d.station r)
    (cond (eqb r.ending 1) (code_cards (code_at d.station.set r.number) d.station.bits d.numbers) d.numbers))

-- a drive-in begins with the number c: it isn't zero, and not in the garage
unfoldable pub desk_begun : Desk → Outcome → ℕ → DeskOutcome
desk_begun d o c =
    cond (eqb c 0) (desk_refused d ZeroNumber)
    (cond (is_known d.numbers c) (desk_refused d KnownNumber)
    (desk_holding o (cards_driven BeginIn c d.numbers)))

-- the numbers after any other event: the number that is handed in is not looked at
abbrev pub passed : Option Event → List ℕ → List ℕ
passed (Some e) a = cards_driven e 0 a
passed None a = a

-- a car event by its number, with a card's number
unfoldable pub desk_event : Desk → ℕ → ℕ → DeskOutcome
desk_event d e c =
    let o = station.evented d.station e in
    on_fit_desk d (where_taken d o (cond (eqb e 1) (desk_begun d o c) (desk_holding o (passed (read_event e) d.numbers))))

-- an image that the station takes, by what its numbers come to
abbrev pub offered : Desk → Outcome → List ℕ → Result (Unit {0}) GivenError → DeskOutcome
offered d o a (Ok _) = desk_holding o a
offered d o a (Err given.WrongCount) = desk_refused d WrongCount
offered d o a (Err given.ZeroNumber) = desk_refused d ZeroNumber
offered d o a (Err given.TwiceGiven) = desk_refused d KnownNumber

-- an image with n numbers
unfoldable pub desk_take_image : Desk → Picture → ℕ → List ℕ → DeskOutcome
desk_take_image d p n ns =
    let o = station.imaged d.station p in
    on_fit_desk d (where_taken d o (offered d o (cards_given p.bits ns) (given_as p.bits n ns)))

-- the record is asked for
unfoldable pub desk_ask : Desk → DeskOutcome
desk_ask d = on_fit_desk d (desk_refused d (Told Taken))
