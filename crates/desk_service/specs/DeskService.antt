-- What messages are answered with by a desk: one message on a desk. The station's kinds are the desk's calls without a card; the desk's own
-- kinds bring cards, or ask. Assumes nothing.
use Rattle.std.specs.Prelude.{◌≡◌, cond, List, [], ◌∷◌, ◌++◌, map, ℕ, ◌+◌, ◌*◌, eqb, length, get_or, take, replicate}
use Rattle.bits.specs.Places.{from, join}
use Rattle.codec.specs.Bytes.{little_endian}
use Rattle.answers.specs.declared.Answer.{Answer}
use Rattle.answers.specs.declared.Answer.TheVariants.{UnknownKind, Unfit}
use Rattle.answers.specs.Answers.{number_of, place_of, issue_of}
use Rattle.wire.specs.declared.What.{What}
use Rattle.wire.specs.declared.What.TheVariants.{Request, Event, Result, Image, Ask}
use Rattle.wire.specs.Kinds.{plain}
use Rattle.wire.specs.Writes.{LeavesMessage, message_bytes, put}
use Rattle.station.specs.declared.Picture.{Picture}
use Rattle.desk.specs.declared.Desk.{Desk}
use Rattle.desk.specs.declared.DeskOutcome.{DeskOutcome}
use Rattle.desk.specs.declared.Reply.{Reply}
use Rattle.desk.specs.declared.Line.{Line}
use Rattle.desk.specs.declared.OpenSet.{OpenSet}
use Rattle.desk.specs.declared.Whereabouts.{Whereabouts}
use Rattle.std.specs.declared.option.Option.{Option}
use Rattle.std.specs.declared.option.Option.TheVariants.{Some, None}
use Rattle.std.specs.declared.result.Result.{Result as ResultOf}
use Rattle.std.specs.declared.result.Result.TheVariants.{Ok, Err}
use Rattle.desk.specs.declared.AskError.{AskError}
use Rattle.desk.specs.Desk.{reply_number, reply_place, reply_issue}
use Rattle.desk.specs.Calls.{desk_request, desk_event, desk_result, desk_take_image, desk_ask}
use Rattle.desk.specs.Questions.{whereabouts, leaving}
use Rattle.desk.specs.Lines.{where_line, line_bytes, listed_cars, outstanding, card_changes}
use Rattle.desk_wire.specs.DeskKinds.{begin_kind, most_cards, cards_kind, where_kind, leaving_kind, list_kind, open_kind, compare_kind, told_kind, place_kind, card_kind, cars_kind, set_kind, changes_kind}
use Rattle.desk_wire.specs.DeskWrites.{shaped_bytes}
use Rattle.desk_wire.specs.DeskReads.{DeskMessage, of_station, shaped, DeskReceived, read_desk_asked}
use Rattle.desk_service.specs.declared.DeskTold.{DeskTold}
use Rattle.desk_service.specs.declared.DeskTold.TheVariants as told
use Rattle.desk_service.specs.declared.DeskReply.{DeskReply}
use Rattle.desk_service.specs.declared.DeskAnswered.{DeskAnswered}

-- ---- what a message is told

-- an answer, or the desk's own refusal, as a message
abbrev pub answer_told : Answer → DeskTold
answer_told a = told.Answer (number_of a) (place_of a) (issue_of a)

-- what is said to a message: one of those, some lines by the kind of their message, or what is outstanding
pub data DeskSaid : Type 0 where
  briefly : DeskTold → DeskSaid
  in_lines : ℕ → List Line → DeskSaid
  in_set : OpenSet → DeskSaid

-- the next desk, and what is said
pub record DeskReplied : Type 0 where
  pub desk : Desk
  pub told : DeskSaid

abbrev pub brief : DeskReply → DeskReplied
brief r = record { desk = r.desk; told = briefly r.told }

-- what could not be read makes no call
abbrev pub desk_unread : Desk → Answer → DeskReply
desk_unread d a = record { desk = d; told = answer_told a }

-- a call's desk, and its reply
abbrev pub reply_told : Reply → DeskTold
reply_told a = told.Answer (reply_number a) (reply_place a) (reply_issue a)

abbrev pub desk_called : DeskOutcome → DeskReply
desk_called o = record { desk = o.desk; told = reply_told o.reply }

-- after an ask that is taken, the record and what is set apart
abbrev pub desk_shown : DeskOutcome → DeskReply
desk_shown o =
    cond (eqb (reply_number o.reply) 0)
    (record { desk = o.desk; told = told.Held o.desk.station.bits o.desk.station.apart })
    (desk_called o)

-- where a card's car is: its line without the card; 16 of a desk that isn't fit
abbrev pub line_told : Line → DeskTold
line_told l = told.Place l.place l.flag l.next

abbrev pub where_told : ResultOf Whereabouts AskError → DeskTold
where_told (Ok w) = line_told (where_line 0 w)
where_told (Err AskError.Unfit) = answer_told Unfit

-- which card is leaving, 0 if none is
abbrev pub leaving_told : ResultOf (Option ℕ) AskError → DeskTold
leaving_told (Ok (Some c)) = told.Card c
leaving_told (Ok None) = told.Card 0
leaving_told (Err AskError.Unfit) = answer_told Unfit

-- a question that a desk answers if it is fit, and refuses as an ask else
abbrev pub fit_said : Desk → DeskSaid → DeskReplied
fit_said d x = cond (eqb (reply_number (desk_ask d).reply) 0) (record { desk = d; told = x }) (brief (desk_called (desk_ask d)))

-- what an image would change; it is refused as the image would be, and the desk is as it was
unfoldable pub compare_said : Desk → Picture → ℕ → List ℕ → DeskReplied
compare_said d p n ns =
    let o = desk_take_image d p n ns in
    cond (eqb (reply_number o.reply) 0)
    (record { desk = d; told = in_lines changes_kind.number (card_changes d.station.apart d.numbers o.desk.numbers) })
    (brief (record { desk = d; told = reply_told o.reply }))

-- ---- one message

-- no card: 31 zeros
abbrev pub no_cards : List ℕ
no_cards = replicate most_cards 0

-- the cards of an image's entries as 31 numbers, zeros behind them
unfoldable pub cards_brought : List (List ℕ) → List ℕ
cards_brought xs = map (λ p. get_or (get_or xs p []) 0 0) (from 0 most_cards)

-- the reply to one of the station's: the desk's call of that name. A drive-in that begins has the number 0, and an image no numbers
abbrev pub station_said : What → Desk → ℕ → List ℕ → DeskReply
station_said Request d count set = desk_called (desk_request d count set)
station_said (Event way) d count set = desk_called (desk_event d way 0)
station_said (Result issue number ending) d count set = desk_called (desk_result d (record { issue = issue; number = number; ending = ending }))
station_said (Image bits apart) d count set = desk_called (desk_take_image d (record { bits = bits; apart = apart }) 0 no_cards)
station_said Ask d count set = desk_shown (desk_ask d)
station_said (What.Answer number place issue) d count set = desk_unread d UnknownKind
station_said (What.Held bits apart) d count set = desk_unread d UnknownKind

-- the image of two fields
abbrev pub image_in : List ℕ → Picture
image_in ns = record { bits = get_or ns 0 0; apart = get_or ns 1 0 }

-- the reply to one of the desk's own kinds
abbrev pub own_said : ℕ → List ℕ → List (List ℕ) → Desk → DeskReplied
own_said kind ns xs d =
    cond (eqb kind begin_kind.number) (brief (desk_called (desk_event d 1 (get_or ns 0 0))))
    (cond (eqb kind cards_kind.number) (brief (desk_called (desk_take_image d (image_in ns) (length xs) (cards_brought xs))))
    (cond (eqb kind where_kind.number) (brief (record { desk = d; told = where_told (whereabouts d (get_or ns 0 0)) }))
    (cond (eqb kind leaving_kind.number) (brief (record { desk = d; told = leaving_told (leaving d) }))
    (cond (eqb kind list_kind.number) (fit_said d (in_lines cars_kind.number (listed_cars d)))
    (cond (eqb kind open_kind.number) (fit_said d (in_set (outstanding d)))
    (cond (eqb kind compare_kind.number) (compare_said d (image_in ns) (length xs) (cards_brought xs))
    (brief (desk_unread d UnknownKind))))))))

abbrev pub said_to : Desk → DeskMessage → DeskReplied
said_to d (of_station m) = brief (station_said m.what d m.count m.set)
said_to d (shaped kind ns xs) = own_said kind ns xs d

-- the reply to what was read
abbrev pub reply_read : Desk → DeskReceived → DeskReplied
reply_read d r = cond (eqb (number_of r.answer) 0) (said_to d r.message) (brief (desk_unread d r.answer))

-- the reply to the first message of some bytes
unfoldable pub respond_desk : Desk → List ℕ → DeskReplied
respond_desk d bytes = reply_read d (read_desk_asked bytes)

-- ---- in bytes

-- an answer in bytes
abbrev pub brief_bytes : DeskTold → List ℕ
brief_bytes (told.Answer number place issue) = shaped_bytes told_kind (number ∷ place ∷ issue ∷ []) []
brief_bytes (told.Held bits apart) = message_bytes (plain (What.Held bits apart))
brief_bytes (told.Place place flag next) = shaped_bytes place_kind (place ∷ flag ∷ next ∷ []) []
brief_bytes (told.Card card) = shaped_bytes card_kind (card ∷ []) []

-- a message of this kind, by its body
abbrev pub body_message : ℕ → List ℕ → List ℕ
body_message kind body = little_endian 2 (2 + length body) ++ (little_endian 2 kind ++ body)

-- what is said to a message, in bytes: lines are eight bytes each, instructions five
abbrev pub told_bytes : DeskSaid → List ℕ
told_bytes (briefly t) = brief_bytes t
told_bytes (in_lines kind xs) = body_message kind (length xs ∷ join (map line_bytes xs))
told_bytes (in_set o) = body_message set_kind.number (little_endian 2 o.issue ++ (o.answered ∷ o.count ∷ take (5 * o.count) o.set))

-- a reply is written to a room: its desk is returned, and what is said is put at the start of the room, or 17 and nothing
abbrev pub LeavesReply : DeskReplied → List ℕ → DeskAnswered → List ℕ → Type 0
LeavesReply a room r last = (r.desk ≡ a.desk) × LeavesMessage (put (told_bytes a.told) room) r.written last
