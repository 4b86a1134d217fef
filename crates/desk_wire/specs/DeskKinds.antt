-- The kinds of messages that only a desk has, beside the station's: their numbers, shapes and ranges stand here and nowhere else. A car's
-- place is the cell of its number, 52 on the raised lift, 255 for none. Assumes nothing.
use Rattle.std.specs.Prelude.{Bool, true, not, ◌&&◌, ◌||◌, List, [], ◌∷◌, ◌++◌, ℕ, eqb, leb, length, get_or}
use Rattle.answers.specs.Answers.{in_table, nowhere}
use Rattle.desk_wire.specs.Shapes.{Shape}

-- ---- what is asked

-- 6: a drive-in begins with a card, which is not 0
abbrev pub begin_kind : Shape
begin_kind = record { number = 6; fields = 4 ∷ []; each = []; ranged = λ ns xs. not (eqb (get_or ns 0 0) 0) }

-- the most cards that come with an image
abbrev pub most_cards : ℕ
most_cards = 31

-- 7: an image with cards: the record, what is set apart, and one card or more; without any it is the station's kind 4
abbrev pub cards_kind : Shape
cards_kind = record { number = 7; fields = 8 ∷ 8 ∷ []; each = 4 ∷ []; ranged = λ ns xs. leb 1 (length xs) && leb (length xs) most_cards }

-- 8: where the car with a card is
abbrev pub where_kind : Shape
where_kind = record { number = 8; fields = 4 ∷ []; each = []; ranged = λ ns xs. true }

-- 9: which card is leaving
abbrev pub leaving_kind : Shape
leaving_kind = record { number = 9; fields = []; each = []; ranged = λ ns xs. true }

-- 10: every car
abbrev pub list_kind : Shape
list_kind = record { number = 10; fields = []; each = []; ranged = λ ns xs. true }

-- 11: what is outstanding
abbrev pub open_kind : Shape
open_kind = record { number = 11; fields = []; each = []; ranged = λ ns xs. true }

-- 12: what an image would change: the record, what is set apart, and its cards, also none
abbrev pub compare_kind : Shape
compare_kind = record { number = 12; fields = 8 ∷ 8 ∷ []; each = 4 ∷ []; ranged = λ ns xs. leb (length xs) most_cards }

-- ---- what is answered

-- the desk's own numbers: 37 number zero, 38 number already in the garage, 39 not that many numbers
abbrev pub own_number : ℕ → Bool
own_number n = leb 37 n && leb n 39

-- 128: an answer as the station's, with the desk's own numbers too: its number, its place and the issue of the set that it opens
abbrev pub told_kind : Shape
told_kind =
    record {
      number = 128;
      fields = 1 ∷ 1 ∷ 2 ∷ [];
      each = [];
      ranged = λ ns xs. (in_table (get_or ns 0 0) || own_number (get_or ns 0 0)) && (leb (get_or ns 1 0) 7 || eqb (get_or ns 1 0) nowhere);
    }

-- 136: where the car is: its place, a flag, 0 sure, 1 the last known or 2 in motion, and the place that it would get
abbrev pub place_kind : Shape
place_kind = record { number = 136; fields = 1 ∷ 1 ∷ 1 ∷ []; each = []; ranged = λ ns xs. leb (get_or ns 1 0) 2 }

-- 137: the card that is leaving, 0 if none is
abbrev pub card_kind : Shape
card_kind = record { number = 137; fields = 4 ∷ []; each = []; ranged = λ ns xs. true }

-- lines as their range: a card, its place, its flag, the place that it would get, and a zero
abbrev pub lines_ranged : List (List ℕ) → Bool
lines_ranged [] = true
lines_ranged (x ∷ xs) = leb (get_or x 2 0) 2 && eqb (get_or x 4 0) 0 && lines_ranged xs

-- the widths of a line
abbrev pub line_widths : List ℕ
line_widths = 4 ∷ 1 ∷ 1 ∷ 1 ∷ 1 ∷ []

-- 138: every car, a line each
abbrev pub cars_kind : Shape
cars_kind = record { number = 138; fields = []; each = line_widths; ranged = λ ns xs. leb (length xs) most_cards && lines_ranged xs }

-- 139: what is outstanding: the present issue, a bit for each instruction that is answered, and the instructions, five bytes each
abbrev pub set_kind : Shape
set_kind = record { number = 139; fields = 2 ∷ 1 ∷ []; each = 1 ∷ 1 ∷ 1 ∷ 1 ∷ 1 ∷ []; ranged = λ ns xs. leb (length xs) 8 }

-- 140: what an image would change, a line for each card: where it is, none as 255, and where the image has it
abbrev pub changes_kind : Shape
changes_kind = record { number = 140; fields = []; each = line_widths; ranged = λ ns xs. leb (length xs) 62 && lines_ranged xs }

-- ---- all of them

-- those that a desk reads besides the station's
abbrev pub shapes_asked : List Shape
shapes_asked = begin_kind ∷ cards_kind ∷ where_kind ∷ leaving_kind ∷ list_kind ∷ open_kind ∷ compare_kind ∷ []

-- those that it answers with
abbrev pub shapes_answered : List Shape
shapes_answered = told_kind ∷ place_kind ∷ card_kind ∷ cars_kind ∷ set_kind ∷ changes_kind ∷ []

-- those that the library reads besides the station's
abbrev pub shapes_known : List Shape
shapes_known = shapes_asked ++ shapes_answered
