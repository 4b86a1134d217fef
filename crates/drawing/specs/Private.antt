-- What the contracts of private functions cite: the grid, a text at its fixed places, and the digits of an image. No public one rests on it.
-- Assumes nothing.
use Rattle.std.specs.Prelude.{◌≡◌, Bool, true, false, cond, ◌&&◌, ◌||◌, List, [], ◌∷◌, ◌++◌, ℕ, zero, suc, ◌+◌, ◌*◌, ◌-◌, ◌/◌, ◌%◌, ◌≤◌, ◌<◌, eqb, ltb, length, get_or, drop}
use Rattle.bits.specs.Bits.{Bits, bit}
use Rattle.bits.specs.Search.{every}
use Rattle.codec.specs.Bytes.{little_endian}
use Rattle.floor.specs.Floor.{raised_car, height_low, height_high, drive_in, drive_out}
use Rattle.std.specs.declared.option.Option.{Option}
use Rattle.std.specs.declared.option.Option.TheVariants.{Some, None}
use Rattle.std.specs.declared.result.Result.{Result}
use Rattle.std.specs.declared.result.Result.TheVariants.{Ok, Err}
use Rattle.drawing.specs.declared.Unread.{Unread}
use Rattle.drawing.specs.declared.Unread.TheVariants.{BadLine}
use Rattle.drawing.specs.declared.Lift.{Lift}
use Rattle.drawing.specs.declared.Gathered.{Gathered}
use Rattle.drawing.specs.Drawing.{mark, letter, line_feed, ended_line, height_name, car_word, drive_word, drawn_height, drive_of, lift_words, apart_words}
use Rattle.drawing.specs.Reading.{begins, text_after, height_told, car_told, is_mark, is_letter}
use Rattle.drawing.specs.Hex.{unblanked, hex_digit}

-- a number that is below m, else none
abbrev pub if_under : ℕ → ℕ → Option ℕ
if_under m n = cond (ltb n m) (Some n) None

-- the list f 0, f 1, .. of n elements
unfoldable pub table : {A : Type 0} → ℕ → (ℕ → A) → List A
table zero f = []
table (suc n) f = table n f ++ (f n ∷ [])

-- ---- the grid: three rows of twenty places

-- the cell at row i, place j: twenty in the first row, ten in each other; 40 where there is none
unfoldable pub cell_at : ℕ → ℕ → ℕ
cell_at i j = cond (eqb i 0) j (cond (ltb j 10) (10 + 10 * i + j) 40)

-- the grid with f k at cell k
unfoldable pub grid : (ℕ → ℕ) → List (List ℕ)
grid f = table 3 (λ i. table 20 (λ j. f (cell_at i j)))

-- the mark of cell k on a record, and in a text; 0 where there is no cell
unfoldable pub cell_mark : Bool → Bits → ℕ → ℕ
cell_mark w f k = cond (ltb k 40) (mark w (f k)) 0

unfoldable pub mark_in : List ℕ → ℕ → ℕ
mark_in s k = cond (ltb k 20) (get_or s k 0) (cond (ltb k 30) (get_or s (k + 1) 0) (cond (ltb k 40) (get_or s (k + 2) 0) 0))

-- the row of cell k, and its place there
unfoldable pub row_of_cell : ℕ → ℕ
row_of_cell k = cond (ltb k 20) 0 (cond (ltb k 30) 1 2)

unfoldable pub place_in_row : ℕ → ℕ
place_in_row k = cond (ltb k 20) k (cond (ltb k 30) (k - 20) (cond (ltb k 40) (k - 30) 0))

-- cell k of a grid is marked
abbrev pub occupied : Bool → List (List ℕ) → Bits
occupied w g k = eqb (get_or (get_or g (row_of_cell k) []) (place_in_row k) 0) (mark w true)

-- ---- a drawing byte by byte

-- byte t of the first five lines, from a grid and a record
unfoldable pub upper_at : List (List ℕ) → Bits → ℕ → ℕ
upper_at g f t =
    cond (ltb t 20) (get_or (get_or g 0 []) t 0)
    (cond (eqb t 20) line_feed
    (cond (ltb t 31) (get_or (get_or g 1 []) (t - 21) 0)
    (cond (eqb t 31) line_feed
    (cond (ltb t 42) (get_or (get_or g 2 []) (t - 32) 0)
    (cond (eqb t 42) line_feed
    (cond (ltb t 46) (letter (f (t - 3)) (f (t - 3 + 6)))
    (cond (eqb t 46) line_feed
    (cond (ltb t 50) (letter (f (t - 4)) (f (t - 4 + 6)))
    line_feed))))))))

-- what a record shows of the lift
unfoldable pub lift_of : Bits → Lift
lift_of f = record { height = drawn_height f; car = f raised_car; drive = drive_of f }

-- where it is set apart, that stands for a car
abbrev pub apart_lift : Bool → Lift
apart_lift b = record { height = 0; car = b; drive = 0 }

unfoldable pub last_shown : Bool → Bits → Lift
last_shown w f = cond w (apart_lift (f raised_car)) (lift_of f)

-- the words of the lift's line, and of the last line
abbrev pub lifts_words : Lift → List ℕ
lifts_words lift = lift_words lift.height lift.car lift.drive

unfoldable pub words_of : Bool → Lift → List ℕ
words_of w lift = cond w (apart_words lift.car) (lifts_words lift)

-- byte t of the whole
unfoldable pub drawn_at : Bool → List (List ℕ) → Bits → Lift → ℕ → ℕ
drawn_at w g f lift t = cond (ltb t 51) (upper_at g f t) (get_or (words_of w lift) (t - 51) 0)

-- ---- a text at its fixed places

-- a text begins with n bytes that pass a test, and a line feed
unfoldable pub stands : ℕ → (ℕ → Bool) → List ℕ → Bool
stands n good s = every n (λ j. good (get_or s j 0)) && eqb (get_or s n 0) line_feed

-- the drive with which a text goes on and ends its line, 3 where there is none
unfoldable pub drive_begun : List ℕ → ℕ
drive_begun s = cond (begins (ended_line (drive_word 0)) s) 0 (cond (begins (ended_line (drive_word 1)) s) 1 (cond (begins (ended_line (drive_word 2)) s) 2 3))

-- what a text that begins with a lift line tells of the lift
unfoldable pub lift_told : List ℕ → Lift
lift_told s =
    record {
      height = height_told s;
      car = car_told s;
      drive = drive_begun (text_after (car_word (car_told s)) (text_after (height_name (height_told s)) s));
    }

-- what a text that begins with the other last line tells
unfoldable pub apart_told : List ℕ → Lift
apart_told s =
    let lift = begins (apart_words true) s in
    record { height = cond (lift || begins (apart_words false) s) 0 3; car = lift; drive = 0 }

unfoldable pub last_told : Bool → List ℕ → Lift
last_told w s = cond w (apart_told s) (lift_told s)

-- what a last line tells, where it is of its form
abbrev pub is_told : Lift → Bool
is_told lift = ltb lift.height 3 && ltb lift.drive 3

abbrev pub lift_line_told : Lift → Option Lift
lift_line_told lift = cond (is_told lift) (Some lift) None

-- the first bad line, where the last tells this of the lift: of the last two, and of all
unfoldable pub bad_at_end : Bool → List ℕ → Lift → ℕ
bad_at_end w s lift = cond (is_told lift) (cond (ltb (51 + length (words_of w lift)) (length s)) 6 7) 5

unfoldable pub bad_at : Bool → List ℕ → Lift → ℕ
bad_at w s lift =
    cond (stands 20 (is_mark w) s)
    (cond (stands 10 (is_mark w) (drop 21 s))
    (cond (stands 10 (is_mark w) (drop 32 s))
    (cond (stands 3 is_letter (drop 43 s))
    (cond (stands 3 is_letter (drop 47 s))
    (bad_at_end w s lift)
    4) 3) 2) 1) 0

-- what the lines tell: line n is the first bad one, or, past the last, this of the lift
abbrev pub lines_told : Lift → ℕ → Result Lift Unread
lines_told lift n = cond (ltb n 7) (Err (BadLine n)) (Ok lift)

-- slot n of twelve
unfoldable pub slot_read : List ℕ → Bits
slot_read s n =
    let b = get_or s (43 + 4 * (n / 3 % 2) + n % 3) 0 in
    eqb b (letter true true) || eqb b (cond (ltb n 6) (letter true false) (letter false true))

-- the lift's bits
unfoldable pub lift_bit : Lift → Bits
lift_bit lift k =
    cond (eqb k raised_car) lift.car
    (cond (eqb k height_low) (bit lift.height 0)
    (cond (eqb k height_high) (bit lift.height 1)
    (cond (eqb k drive_in) (eqb lift.drive 1)
    (cond (eqb k drive_out) (eqb lift.drive 2)
    false))))

-- the bits of a grid, a text and its lift
unfoldable pub bits_at : Bool → List (List ℕ) → List ℕ → Lift → Bits
bits_at w g s lift k = cond (ltb k 40) (occupied w g k) (cond (ltb k 52) (slot_read s (k - 40)) (lift_bit lift k))

-- ---- images in hex

-- byte t of an image's line
unfoldable pub hex_at : ℕ → ℕ → ℕ
hex_at r t =
    let b = get_or (little_endian 8 r) (t / 3) 0 in
    cond (eqb (t % 3) 0) (hex_digit (b / 16)) (cond (eqb (t % 3) 1) (hex_digit (b % 16)) (cond (eqb t 23) line_feed 32))

-- what is gathered of a text: its bytes that are no blanks, where they are no more than 32
pub record KeepsDigits (d : List ℕ) (r : Gathered) : Type 0 where
  pub many : r.count ≡ length d
  pub few : r.count ≤ 32
  pub held : (j : ℕ) → j < r.count → get_or r.bytes j 0 ≡ get_or d j 0

abbrev pub Gathers : List ℕ → Option Gathered → Type 0
Gathers s None = 32 < length (unblanked s)
Gathers s (Some r) = KeepsDigits (unblanked s) r
