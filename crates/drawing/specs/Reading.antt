-- A drawing read: which of its lines is the first that isn't of its form, and the number that a text of this form draws. What is given `w`
-- is of both drawings, as in Drawing. Assumes nothing.
use Rattle.std.specs.Prelude.{Bool, true, false, not, cond, ◌&&◌, ◌||◌, List, [], ◌∷◌, ℕ, zero, suc, ◌+◌, ◌-◌, ◌/◌, ◌%◌, eqb, ltb, length, get_or, take, drop}
use Rattle.bits.specs.Bits.{Bits, bit, image}
use Rattle.bits.specs.Search.{every, least}
use Rattle.floor.specs.Floor as floor
use Rattle.floor.specs.Floor.{raised_car, height_low, height_high}
use Rattle.std.specs.declared.result.Result.{Result}
use Rattle.std.specs.declared.result.Result.TheVariants.{Ok, Err}
use Rattle.drawing.specs.declared.Unread.{Unread}
use Rattle.drawing.specs.declared.Unread.TheVariants.{BadLine, Unsound}
use Rattle.drawing.specs.Drawing.{mark, letter, line_feed, ended_line, height_name, car_word, drive_word, apart_words, has_drawing}

-- ---- lines

-- the first line of a text, up to and with its line feed; where there is none, all of it
unfoldable pub first_line : List ℕ → List ℕ
first_line [] = []
first_line (b ∷ s) = cond (eqb b line_feed) (b ∷ []) (b ∷ first_line s)

-- the text from line j on; line j
unfoldable pub from_line : ℕ → List ℕ → List ℕ
from_line zero s = s
from_line (suc j) s = let r = from_line j s in drop (length (first_line r)) r

abbrev pub line_at : ℕ → List ℕ → List ℕ
line_at j s = first_line (from_line j s)

-- ---- the form of a line

-- byte j of a line
abbrev pub byte_at : ℕ → List ℕ → ℕ
byte_at j l = get_or l j 0

-- it has n bytes that pass a test, and its line feed
unfoldable pub each : ℕ → (ℕ → Bool) → List ℕ → Bool
each n good l = eqb (length l) (suc n) && every n (λ j. good (byte_at j l)) && eqb (byte_at n l) line_feed

abbrev pub is_mark : Bool → ℕ → Bool
is_mark w b = eqb b (mark w true) || eqb b (mark w false)

abbrev pub is_letter : ℕ → Bool
is_letter b = eqb b (letter true true) || eqb b (letter true false) || eqb b (letter false true) || eqb b (letter false false)

-- two texts are the same
unfoldable pub same : List ℕ → List ℕ → Bool
same [] [] = true
same [] (c ∷ t) = false
same (b ∷ s) [] = false
same (b ∷ s) (c ∷ t) = eqb b c && same s t

-- a text begins with a word
abbrev pub begins : List ℕ → List ℕ → Bool
begins word s = same (take (length word) s) word

-- what stands after a word that a text begins with
abbrev pub text_after : List ℕ → List ℕ → List ℕ
text_after word s = drop (length word) s

-- the height that a lift line begins with, 3 where it is none; whether a car is told after it; the drive that ends the line, 3 where it
-- ends otherwise
unfoldable pub height_told : List ℕ → ℕ
height_told l = cond (begins (height_name 0) l) 0 (cond (begins (height_name 1) l) 1 (cond (begins (height_name 2) l) 2 3))

unfoldable pub car_told : List ℕ → Bool
car_told l = begins (car_word true) (text_after (height_name (height_told l)) l)

unfoldable pub drive_told : List ℕ → ℕ
drive_told l =
    let rest = text_after (car_word (car_told l)) (text_after (height_name (height_told l)) l) in
    cond (same rest (ended_line (drive_word 0))) 0 (cond (same rest (ended_line (drive_word 1))) 1 (cond (same rest (ended_line (drive_word 2))) 2 3))

-- the form of the last line: a height, then a car or none, then a drive or none; or whether the lift is set apart
unfoldable pub is_last : Bool → List ℕ → Bool
is_last w l = cond w (same l (apart_words true) || same l (apart_words false)) (ltb (height_told l) 3 && ltb (drive_told l) 3)

-- twenty marks, ten, ten; three letters, and three; the last line
unfoldable pub is_line : Bool → ℕ → List ℕ → Bool
is_line w j l =
    cond (eqb j 0) (each 20 (is_mark w) l)
    (cond (ltb j 3) (each 10 (is_mark w) l)
    (cond (ltb j 5) (each 3 is_letter l)
    (is_last w l)))

-- line j is bad; past the last line, 6, any text is
unfoldable pub bad_line : Bool → List ℕ → ℕ → Bool
bad_line w s j = cond (ltb j 6) (not (is_line w j (line_at j s))) (ltb 0 (length (from_line 6 s)))

-- the first bad line, or 7 where there is none
abbrev pub first_bad : Bool → List ℕ → ℕ
first_bad w s = least 7 (bad_line w s)

-- ---- the number of a text of this form

-- cell k is marked as occupied or set apart: in row 1 twenty, in rows 2 and 3 ten each
unfoldable pub cell_in : Bool → List ℕ → Bits
cell_in w s k =
    cond (ltb k 20) (eqb (byte_at k (line_at 0 s)) (mark w true))
    (cond (ltb k 30) (eqb (byte_at (k - 20) (line_at 1 s)) (mark w true))
    (eqb (byte_at (k - 30) (line_at 2 s)) (mark w true)))

-- the letter of slot n of twelve: of the six of either orientation three are the left side's
abbrev pub letter_in : List ℕ → ℕ → ℕ
letter_in s n = byte_at (n % 3) (line_at (3 + n / 3 % 2) s)

-- slot n is drawn as occupied or set apart: the first six are lowered, the others tilted
unfoldable pub slot_in : List ℕ → Bits
slot_in s n =
    eqb (letter_in s n) (letter true true)
    || eqb (letter_in s n) (cond (ltb n 6) (letter true false) (letter false true))

-- the lift's bits, from the last line
unfoldable pub lift_drawn : List ℕ → Bits
lift_drawn l k =
    cond (eqb k raised_car) (car_told l)
    (cond (eqb k height_low) (bit (height_told l) 0)
    (cond (eqb k height_high) (bit (height_told l) 1)
    (cond (eqb k floor.drive_in) (eqb (drive_told l) 1)
    (cond (eqb k floor.drive_out) (eqb (drive_told l) 2)
    false))))

-- the lift's bit, where it is set apart
unfoldable pub apart_drawn : List ℕ → Bits
apart_drawn l k = eqb k raised_car && same l (apart_words true)

abbrev pub last_drawn : Bool → List ℕ → Bits
last_drawn w l k = cond w (apart_drawn l k) (lift_drawn l k)

-- the bits that a text draws
unfoldable pub bits_in : Bool → List ℕ → Bits
bits_in w s k = cond (ltb k 40) (cell_in w s k) (cond (ltb k 52) (slot_in s (k - 40)) (last_drawn w (line_at 5 s) k))

-- ---- a drawing read

-- the first bad line where the text isn't of this form; then it is unsound where the number that it draws has no drawing
unfoldable pub reading : Bool → List ℕ → Result ℕ Unread
reading w s =
    let r = image (bits_in w s) in
    cond (ltb (first_bad w s) 7) (Err (BadLine (first_bad w s)))
    (cond (has_drawing w r) (Ok r) (Err Unsound))
