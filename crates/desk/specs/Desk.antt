-- The street desk: a station, and the numbers of the cars in its garage; what it answers, and when it is fit. Assumes nothing.
use Rattle.std.specs.Prelude.{Bool, ◌&&◌, ℕ, eqb, replicate}
use Rattle.answers.specs.declared.Answer.{Answer}
use Rattle.answers.specs.Answers.{number_of, place_of, issue_of, nowhere}
use Rattle.station.specs.Station.{start_of, fit}
use Rattle.cards.specs.Held.{cards_fit}
use Rattle.desk.specs.declared.Desk.{Desk}
use Rattle.desk.specs.declared.Reply.{Reply}
use Rattle.desk.specs.declared.Reply.TheVariants.{Told, ZeroNumber, KnownNumber, WrongCount}

-- the start: the station's, and no number
abbrev pub start_desk : Desk
start_desk = record { station = start_of; numbers = replicate 42 0 }

-- a desk is fit if its station is, and its numbers fit the record
unfoldable pub desk_fit : Desk → Bool
desk_fit d = fit d.station && cards_fit d.station.bits d.numbers

-- ---- what it answers: what the station says, or 37 number zero, 38 number already in the garage, 39 not that many numbers

abbrev pub reply_number : Reply → ℕ
reply_number (Told a) = number_of a
reply_number ZeroNumber = 37
reply_number KnownNumber = 38
reply_number WrongCount = 39

-- the place and the issue that come with it, as the station's; with its own refusals none
abbrev pub reply_place : Reply → ℕ
reply_place (Told a) = place_of a
reply_place ZeroNumber = nowhere
reply_place KnownNumber = nowhere
reply_place WrongCount = nowhere

abbrev pub reply_issue : Reply → ℕ
reply_issue (Told a) = issue_of a
reply_issue ZeroNumber = 0
reply_issue KnownNumber = 0
reply_issue WrongCount = 0

-- the station takes the call
abbrev pub is_taken : Answer → Bool
is_taken a = eqb (number_of a) 0
