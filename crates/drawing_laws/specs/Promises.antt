-- What is promised of both drawings, that of a record and, where `w` is true, that of what is set apart: every number that has one reads back
-- as itself, a text that reads is the only text of its number, and which line is the first bad one. Each is proved in proofs/. Assumes
-- nothing.
use Rattle.std.specs.Prelude.{◌≡◌, ◌↔◌, ◌⊎◌, Bool, true, false, cond, List, [], ◌++◌, ℕ, ◌≤◌, ◌<◌, ◌^◌, length, get_or}
use Rattle.bits.specs.Bits.{Bits, bit, image}
use Rattle.bits.specs.Places.{join}
use Rattle.floor.specs.Floor.{raised_car, drives}
use Rattle.floor.specs.Tests.{set, no, holds, height_is}
use Rattle.floor.specs.Sound.{sound}
use Rattle.std.specs.declared.option.Option.TheVariants.{Some}
use Rattle.std.specs.declared.result.Result.TheVariants.{Ok, Err}
use Rattle.drawing.specs.declared.Unread.TheVariants.{BadLine, Unsound}
use Rattle.drawing.specs.Drawing.{drawing_lines, drawn, has_drawing}
use Rattle.drawing.specs.Reading.{reading}
use Rattle.drawing.specs.declared.Hex.TheVariants.{Image, Asked}
use Rattle.drawing.specs.Hex.{hex_in, hex_line}

-- every sound record, and every number of the 53 parts, reads back as itself from its drawing
abbrev pub DrawnReadsBack : Type 0
DrawnReadsBack = (w : Bool) (r : ℕ) → r < 2 ^ 64 → has_drawing w r ≡ true → reading w (drawn w (bit r)) ≡ Ok r

-- text that reads as a number is the only text of it, and the number has a drawing
abbrev pub OneDrawing : Type 0
OneDrawing = (w : Bool) (s : List ℕ) (r : ℕ) → reading w s ≡ Ok r → (s ≡ drawn w (bit r)) × (has_drawing w r ≡ true) × (r < 2 ^ 64)

-- no two numbers have the same drawing
abbrev pub DrawingsDiffer : Type 0
DrawingsDiffer =
    (w : Bool) (r q : ℕ) → r < 2 ^ 64 → q < 2 ^ 64 → has_drawing w r ≡ true → has_drawing w q ≡ true → drawn w (bit r) ≡ drawn w (bit q) → r ≡ q

-- a text that reads as a record's drawing never reads as one of what is set apart
abbrev pub DrawingsApart : Type 0
DrawingsApart = (s : List ℕ) (r a : ℕ) → reading false s ≡ Ok r → reading true s ≡ Ok a → ⊥

-- ---- what is refused

-- a record that the form can show, sound or not: the lift has a height, at most one drive is under way, and the bits that stand for nothing
-- are zero
pub record Drawable (f : Bits) : Type 0 where
  pub height : holds (no (height_is 3)) f ≡ true
  pub drive : holds (no (set drives)) f ≡ true
  pub rest : (k : ℕ) → 57 ≤ k → f k ≡ false

-- of what is set apart, every bit past the lift's is zero
abbrev pub Shown : Bool → Bits → Type 0
Shown true f = (k : ℕ) → 53 ≤ k → f k ≡ false
Shown false f = Drawable f

-- unsound is told exactly of the drawings of records that can be shown and are not sound, or of parts that there are not
abbrev pub UnsoundExactly : Type 0
UnsoundExactly = (w : Bool) (s : List ℕ) → (reading w s ≡ Err Unsound) ↔ ((f : Bits) × Shown w f × (s ≡ drawn w f) × (has_drawing w (image f) ≡ false))

-- of what is set apart no drawing is told so
abbrev pub ApartNeverUnsound : Type 0
ApartNeverUnsound = (s : List ℕ) → reading true s ≡ Err Unsound → ⊥

-- a line is of the form of line j: something that can be shown has it there
abbrev pub Formed : Bool → ℕ → List ℕ → Type 0
Formed w j l = (f : Bits) × Shown w f × (l ≡ get_or (drawing_lines w f) j [])

-- line p is the first bad one: p lines stand before it, each of its form, and what follows them doesn't begin with a line of its form; or
-- all six lines do, and text follows them
pub record FirstBad (w : Bool) (s : List ℕ) (p : ℕ) : Type 0 where
  pub before : List (List ℕ)
  pub rest : List ℕ
  pub stands : s ≡ join before ++ rest
  pub many : length before ≡ p
  pub good : (j : ℕ) → j < p → Formed w j (get_or before j [])
  pub bad : ((p < 6) × ((l t : List ℕ) → rest ≡ l ++ t → Formed w p l → ⊥)) ⊎ ((p ≡ 6) × (0 < length rest))

-- a line is told exactly if it is the first bad one
abbrev pub FirstBadLine : Type 0
FirstBadLine = (w : Bool) (s : List ℕ) (p : ℕ) → (reading w s ≡ Err (BadLine p)) ↔ FirstBad w s p

-- reading a text returns a number, or unsound, or a line from 0 to 6, and nothing else
abbrev pub ReadNumbers : Type 0
ReadNumbers =
    (w : Bool) (s : List ℕ)
    → ((r : ℕ) × (reading w s ≡ Ok r)) ⊎ (reading w s ≡ Err Unsound) ⊎ ((p : ℕ) × (reading w s ≡ Err (BadLine p)) × (p < 7))

-- ---- lengths

-- a sound record's drawing has 58 to 66 bytes
abbrev pub DrawnLength : Type 0
DrawnLength = (r : ℕ) → sound r ≡ true → (58 ≤ length (drawn false (bit r))) × (length (drawn false (bit r)) ≤ 66)

-- that of what is set apart has 53, or 56 where the lift is among it
abbrev pub ApartLength : Type 0
ApartLength = (a : ℕ) → length (drawn true (bit a)) ≡ cond (bit a raised_car) 56 53

-- ---- images in hex

-- an image that is written in hex reads back
abbrev pub HexReadsBack : Type 0
HexReadsBack = (r : ℕ) → r < 2 ^ 64 → hex_in (hex_line 8 r) ≡ Some (Image r)

-- and so do the two lines of a record and what is set apart
abbrev pub AskedReadsBack : Type 0
AskedReadsBack = (r a : ℕ) → r < 2 ^ 64 → a < 2 ^ 64 → hex_in (hex_line 8 r ++ hex_line 8 a) ≡ Some (Asked r a)
