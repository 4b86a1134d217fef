-- Numbers laid out in bytes by their widths, and the shape of a message: its kind, its fields, and what comes several times behind them.
-- Any table of shapes will do. Assumes nothing.
use Rattle.std.specs.Prelude.{◌≡◌, Bool, List, [], ◌∷◌, ◌++◌, ℕ, zero, suc, ◌+◌, ◌*◌, ◌^◌, ◌<◌, length, get_or, drop}
use Rattle.codec.specs.Bytes.{little_endian, from_little_endian}

-- ---- numbers of some widths, one behind the other

-- how many bytes they take
abbrev pub widths_sum : List ℕ → ℕ
widths_sum [] = 0
widths_sum (w ∷ ws) = w + widths_sum ws

-- their bytes: each in its width, the lowest byte first
abbrev pub laid_out : List ℕ → List ℕ → List ℕ
laid_out [] ns = []
laid_out (w ∷ ws) [] = []
laid_out (w ∷ ws) (n ∷ ns) = little_endian w n ++ laid_out ws ns

-- the numbers that some bytes say
abbrev pub read_out : List ℕ → List ℕ → List ℕ
read_out [] s = []
read_out (w ∷ ws) s = from_little_endian w 0 s ∷ read_out ws (drop w s)

-- there are as many as widths, and each has room in its own
abbrev pub InWidths : List ℕ → List ℕ → Type 0
InWidths [] [] = Unit {0}
InWidths [] (n ∷ ns) = ⊥
InWidths (w ∷ ws) [] = ⊥
InWidths (w ∷ ws) (n ∷ ns) = (n < 256 ^ w) × InWidths ws ns

-- ---- entries: several of such lists, all of the same widths

abbrev pub laid_each : List ℕ → List (List ℕ) → List ℕ
laid_each ws [] = []
laid_each ws (x ∷ xs) = laid_out ws x ++ laid_each ws xs

-- so many of them, read
abbrev pub read_each : List ℕ → ℕ → List ℕ → List (List ℕ)
read_each ws zero s = []
read_each ws (suc n) s = read_out ws s ∷ read_each ws n (drop (widths_sum ws) s)

abbrev pub EachInWidths : List ℕ → List (List ℕ) → Type 0
EachInWidths ws [] = Unit {0}
EachInWidths ws (x ∷ xs) = InWidths ws x × EachInWidths ws xs

-- with a byte before them that says how many they are; where an entry has no widths there is no such byte, and no entry
abbrev pub laid_tail : List ℕ → List (List ℕ) → List ℕ
laid_tail [] xs = []
laid_tail (w ∷ ws) xs = length xs ∷ laid_each (w ∷ ws) xs

-- how many bytes that takes, by its first byte
abbrev pub tail_size : List ℕ → List ℕ → ℕ
tail_size [] s = 0
tail_size (w ∷ ws) s = suc (get_or s 0 0 * widths_sum (w ∷ ws))

abbrev pub read_tail : List ℕ → List ℕ → List (List ℕ)
read_tail [] s = []
read_tail (w ∷ ws) s = read_each (w ∷ ws) (get_or s 0 0) (drop 1 s)

abbrev pub TailInWidths : List ℕ → List (List ℕ) → Type 0
TailInWidths [] xs = xs ≡ []
TailInWidths (w ∷ ws) xs = (length xs < 256) × EachInWidths (w ∷ ws) xs

-- ---- the shape of a message

-- its kind, the widths of its fields and of an entry, and whether fields and entries are in their ranges
pub record Shape : Type 0 where
  pub number : ℕ
  pub fields : List ℕ
  pub each : List ℕ
  pub ranged : List ℕ → List (List ℕ) → Bool

-- the body of a message of this shape
abbrev pub shaped_body : Shape → List ℕ → List (List ℕ) → List ℕ
shaped_body k ns xs = laid_out k.fields ns ++ laid_tail k.each xs

-- how many bytes a body has that begins so
abbrev pub shaped_size : Shape → List ℕ → ℕ
shaped_size k body = widths_sum k.fields + tail_size k.each (drop (widths_sum k.fields) body)

-- the fields and the entries in a body
abbrev pub fields_in : Shape → List ℕ → List ℕ
fields_in k body = read_out k.fields body

abbrev pub entries_in : Shape → List ℕ → List (List ℕ)
entries_in k body = read_tail k.each (drop (widths_sum k.fields) body)
