-- What the desk tells of all its cars, of what is outstanding, and of what an image would change. Each car is a line: its card, its place, a
-- flag, and the place that it would get. Of a desk that isn't fit these say nothing: the reply is then 16 (`desk_ask`). Assumes nothing.
use Rattle.std.specs.Prelude.{cond, ◌||◌, List, [], ◌∷◌, ◌++◌, map, ℕ, zero, suc, ◌*◌, ◌-◌, eqb, leb, length, get_or, replicate}
use Rattle.bits.specs.Bits.{bit, digit}
use Rattle.bits.specs.Places.{join}
use Rattle.codec.specs.Bytes.{little_endian}
use Rattle.floor.specs.Floor.{drive_in}
use Rattle.answers.specs.Answers.{nowhere}
use Rattle.station.specs.declared.Picture.{Picture}
use Rattle.station.specs.Station.{present_issue}
use Rattle.cards.specs.Following.{no_source}
use Rattle.cards.specs.Held.{place_of_element, numbers_in, is_known, where_is}
use Rattle.desk.specs.declared.Desk.{Desk}
use Rattle.desk.specs.declared.Line.{Line}
use Rattle.desk.specs.declared.Lines.{Lines}
use Rattle.desk.specs.declared.Comparison.{Comparison}
use Rattle.desk.specs.declared.OpenSet.{OpenSet}
use Rattle.desk.specs.declared.Whereabouts.{Whereabouts}
use Rattle.desk.specs.declared.Whereabouts.TheVariants.{At, LastKnown, Moving, NotHere}
use Rattle.desk.specs.Desk.{reply_number}
use Rattle.desk.specs.Calls.{desk_take_image}
use Rattle.desk.specs.Questions.{is_under, place_known}

-- ---- lines

-- a place that is told: nowhere, as 255, if there is none
abbrev pub place_told : ℕ → ℕ
place_told k = cond (eqb k no_source) nowhere k

-- where the car with the number c is, as a line. The flag: 0 it is there for sure, 1 that place is the last known, 2 it is in motion; the
-- place that it would get is told with 2 alone
abbrev pub where_line : ℕ → Whereabouts → Line
where_line c (At k) = record { card = c; place = k; flag = 0; next = 0 }
where_line c (LastKnown k) = record { card = c; place = k; flag = 1; next = 0 }
where_line c (Moving k j) = record { card = c; place = k; flag = 2; next = place_told j }
where_line c NotHere = record { card = c; place = nowhere; flag = 0; next = 0 }

-- there is room for so many: a garage has at most 31 cars, and an image brings at most 31
abbrev pub most_lines : ℕ
most_lines = 62

-- a line behind others, where there is room; one with the card 0 is none
abbrev pub with_line : List Line → Line → List Line
with_line xs l = cond (eqb l.card 0 || leb most_lines (length xs)) xs (xs ++ l ∷ [])

-- the lines of n elements behind others, in the order of the elements
unfoldable pub with_lines : List Line → ℕ → (ℕ → Line) → List Line
with_lines xs zero f = xs
with_lines xs (suc n) f = with_line (with_lines xs n f) (f n)

-- a line in bytes: the card's four, the lowest first, its place, its flag, the place that it would get, and a zero
abbrev pub line_bytes : Line → List ℕ
line_bytes l = little_endian 4 l.card ++ l.place ∷ l.flag ∷ l.next ∷ 0 ∷ []

-- lines as the code holds them: how many, and their bytes with zeros behind them
unfoldable pub held_lines : List Line → Lines
held_lines xs = record { count = length xs; bytes = join (map line_bytes xs) ++ replicate (8 * (most_lines - length xs)) 0 }

-- ---- all cars

-- the line of an element
unfoldable pub element_line : Desk → ℕ → Line
element_line d j = let c = get_or d.numbers j 0 in where_line c (place_known d c (place_of_element j))

-- every car in the order of an image's numbers: the cells from the first on, the raised lift, and then the one that waits, at 55
unfoldable pub listed_cars : Desk → List Line
listed_cars d = with_lines [] 42 (element_line d)

-- ---- what is outstanding

-- the issue of the present set, how many instructions it has, which are answered, and the set itself; with none outstanding there are 0
unfoldable pub outstanding : Desk → OpenSet
outstanding d =
    let s = d.station in
    record { issue = present_issue s; count = s.count; answered = s.answered; set = s.set }

-- ---- what an image would change

-- the place of a number, also of the one that waits; nowhere if it is not there
abbrev pub card_place : List ℕ → ℕ → ℕ
card_place a c = let k = where_is a c in cond (eqb k no_source) (cond (eqb (numbers_in a drive_in) c) drive_in no_source) k

-- a card of the garage that would leave or change places: where it is, 1 if that is the last known place, and where the image has it
unfoldable pub moved_line : ℕ → List ℕ → List ℕ → ℕ → Line
moved_line apart old new j =
    let c = get_or old j 0 in
    let k = place_of_element j in
    let to = card_place new c in
    record { card = cond (eqb k to) 0 c; place = k; flag = digit (is_under (bit apart) k); next = place_told to }

-- a card that would appear, and where
unfoldable pub new_line : List ℕ → List ℕ → ℕ → Line
new_line old new j =
    let c = get_or new j 0 in
    record { card = cond (is_known old c) 0 c; place = nowhere; flag = 0; next = place_of_element j }

-- from these numbers to those: first those that leave or change places, then those that appear
unfoldable pub card_changes : ℕ → List ℕ → List ℕ → List Line
card_changes apart old new = with_lines (with_lines [] 42 (moved_line apart old new)) 42 (new_line old new)

-- an image with n numbers is not taken, but compared: it is answered as it would be, and where it would be taken, all changes are told
unfoldable pub compared : Desk → Picture → ℕ → List ℕ → Comparison
compared d p n ns =
    let o = desk_take_image d p n ns in
    record {
      reply = o.reply;
      lines = held_lines (cond (eqb (reply_number o.reply) 0) (card_changes d.station.apart d.numbers o.desk.numbers) []);
    }
