-- What bytes make of a desk: the call that a message makes, or the question that it asks, and a whole input as a list of these.
-- Assumes nothing.
use Rattle.std.specs.Prelude.{Bool, true, false, cond, ◌&&◌, List, [], ◌∷◌, ◌++◌, ℕ, zero, suc, eqb, length, get_or, drop}
use Rattle.answers.specs.declared.Answer.{Answer}
use Rattle.answers.specs.declared.Answer.TheVariants.{UnknownKind}
use Rattle.answers.specs.Answers.{number_of}
use Rattle.wire.specs.declared.What.{What}
use Rattle.wire.specs.declared.What.TheVariants.{Request, Event, Result, Image, Ask}
use Rattle.station.specs.declared.Picture.{Picture}
use Rattle.service.specs.Service.{no_bytes, go_on}
use Rattle.desk.specs.declared.Desk.{Desk}
use Rattle.desk.specs.Questions.{whereabouts, leaving}
use Rattle.desk.specs.Lines.{listed_cars, outstanding}
use Rattle.desk_laws.specs.Runs as run
use Rattle.desk_laws.specs.Runs.{DeskCall, call_desk, desk_answer_number, desk_after}
use Rattle.desk_wire.specs.DeskKinds.{begin_kind, cards_kind, where_kind, leaving_kind, list_kind, open_kind, compare_kind, cars_kind}
use Rattle.desk_wire.specs.DeskReads.{DeskMessage, of_station, shaped, frame_up_to, most_length, read_desk_asked}
use Rattle.desk_service.specs.declared.DeskTold.{DeskTold}
use Rattle.desk_service.specs.declared.DeskTold.TheVariants as told
use Rattle.desk_service.specs.DeskService.{DeskReplied, brief, in_lines, in_set, reply_told, desk_unread, where_told, leaving_told, fit_said, compare_said, no_cards, cards_brought, image_in, told_bytes}

-- ---- one message

-- a call, a question, or none and why
pub data DeskHeard : Type 0 where
  makes : DeskCall → DeskHeard
  seeks : ℕ → DeskHeard
  parts : DeskHeard
  lists : DeskHeard
  opens : DeskHeard
  compares : Picture → ℕ → List ℕ → DeskHeard
  refuses : Answer → DeskHeard

-- what one of the station's makes: a drive-in that begins brings the number 0, an image none
abbrev pub station_heard : What → ℕ → List ℕ → DeskHeard
station_heard Request count set = makes (run.request count set)
station_heard (Event way) count set = makes (run.event way 0)
station_heard (Result issue number ending) count set = makes (run.reports (record { issue = issue; number = number; ending = ending }))
station_heard (Image bits apart) count set = makes (run.pictures (record { bits = bits; apart = apart }) 0 no_cards)
station_heard Ask count set = makes run.ask
station_heard (What.Answer number place issue) count set = refuses UnknownKind
station_heard (What.Held bits apart) count set = refuses UnknownKind

-- what one of the desk's own makes, or asks
abbrev pub own_heard : ℕ → List ℕ → List (List ℕ) → DeskHeard
own_heard kind ns xs =
    cond (eqb kind begin_kind.number) (makes (run.event 1 (get_or ns 0 0)))
    (cond (eqb kind cards_kind.number) (makes (run.pictures (image_in ns) (length xs) (cards_brought xs)))
    (cond (eqb kind where_kind.number) (seeks (get_or ns 0 0))
    (cond (eqb kind leaving_kind.number) parts
    (cond (eqb kind list_kind.number) lists
    (cond (eqb kind open_kind.number) opens
    (cond (eqb kind compare_kind.number) (compares (image_in ns) (length xs) (cards_brought xs)) (refuses UnknownKind)))))))

abbrev pub message_heard : DeskMessage → DeskHeard
message_heard (of_station m) = station_heard m.what m.count m.set
message_heard (shaped kind ns xs) = own_heard kind ns xs

-- by its bytes: what the desk's reader refuses makes no call
unfoldable pub desk_heard : List ℕ → DeskHeard
desk_heard bytes = let r = read_desk_asked bytes in cond (eqb (number_of r.answer) 0) (message_heard r.message) (refuses r.answer)

-- whether a call asks for the record
abbrev pub is_desk_ask : DeskCall → Bool
is_desk_ask (run.request n set) = false
is_desk_ask (run.reports r) = false
is_desk_ask (run.event e c) = false
is_desk_ask (run.pictures p n ns) = false
is_desk_ask run.ask = true

-- what a call is told: the record, and what is set apart, after an ask that is taken
abbrev pub call_told : Desk → DeskCall → DeskTold
call_told d c =
    cond (is_desk_ask c && eqb (desk_answer_number d c) 0) (told.Held (desk_after d c).station.bits (desk_after d c).station.apart)
    (reply_told (call_desk d c).reply)

-- the reply: the call's, or the question's with the desk as it was, or the refusal
abbrev pub desk_reply_to : Desk → DeskHeard → DeskReplied
desk_reply_to d (makes c) = brief (record { desk = desk_after d c; told = call_told d c })
desk_reply_to d (seeks c) = brief (record { desk = d; told = where_told (whereabouts d c) })
desk_reply_to d parts = brief (record { desk = d; told = leaving_told (leaving d) })
desk_reply_to d lists = fit_said d (in_lines cars_kind.number (listed_cars d))
desk_reply_to d opens = fit_said d (in_set (outstanding d))
desk_reply_to d (compares p n ns) = compare_said d p n ns
desk_reply_to d (refuses a) = brief (desk_unread d a)

-- ---- a whole input

-- what its messages make, one after another, as far as they are answered; each takes a byte at least
unfoldable pub desk_heard_for : ℕ → List ℕ → List DeskHeard
desk_heard_for zero input = []
desk_heard_for (suc k) input = cond (no_bytes input) [] (desk_heard input ∷ go_on (frame_up_to most_length input) (λ n. desk_heard_for k (drop n input)))

-- all of them
abbrev pub desk_heard_in : List ℕ → List DeskHeard
desk_heard_in input = desk_heard_for (length input) input

-- the calls among them
abbrev pub desk_calls_in : List DeskHeard → List DeskCall
desk_calls_in [] = []
desk_calls_in (makes c ∷ l) = c ∷ desk_calls_in l
desk_calls_in (seeks c ∷ l) = desk_calls_in l
desk_calls_in (parts ∷ l) = desk_calls_in l
desk_calls_in (lists ∷ l) = desk_calls_in l
desk_calls_in (opens ∷ l) = desk_calls_in l
desk_calls_in (compares p n ns ∷ l) = desk_calls_in l
desk_calls_in (refuses a ∷ l) = desk_calls_in l

-- what they are answered with, each on the desk that those before it have left
abbrev pub desk_replies_in : Desk → List DeskHeard → List ℕ
desk_replies_in d [] = []
desk_replies_in d (h ∷ l) = told_bytes (desk_reply_to d h).told ++ desk_replies_in (desk_reply_to d h).desk l
