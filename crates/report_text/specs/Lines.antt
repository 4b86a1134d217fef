-- The report as text: a line for each total that is in force, in the report's order; or the name of the first that is full. Assumes nothing.
use Rattle.std.specs.Prelude.{Bool, true, cond, List, [], ◌∷◌, ◌++◌, map, ℕ, ◌-◌, length, get_or, replicate}
use Rattle.std.specs.declared.option.Option.{Option}
use Rattle.std.specs.declared.option.Option.TheVariants.{Some, None}
use Rattle.bits.specs.Places.{from, join}
use Rattle.answers.specs.Answers.{in_table}
use Rattle.totals.specs.declared.Totals.{Totals}
use Rattle.totals.specs.Totals.{size, name_at}
use Rattle.totals.specs.declared.Name.{Name}
use Rattle.totals.specs.declared.Name.TheVariants.{Kind, Number, Done, Failed, CarsIn, CarsOut, MostCars}
use Rattle.report_text.specs.declared.Text.{Text}
use Rattle.codec.specs.Text.{ascii, decimal}

-- the name of a total
unfoldable pub total_name : Name → List ℕ
total_name (Kind k) = ascii "kind-" ++ decimal k
total_name (Number n) = ascii "answer-" ++ decimal n
total_name (Done op) = ascii "done-" ++ decimal op
total_name (Failed op) = ascii "failed-" ++ decimal op
total_name CarsIn = ascii "cars-in"
total_name CarsOut = ascii "cars-out"
total_name MostCars = ascii "most-cars"

-- a total's line: its name, a space, its value
unfoldable pub line_of : Name → ℕ → List ℕ
line_of x v = total_name x ++ (ascii " " ++ (decimal v ++ ascii "\n"))

-- the line that tells that a total is full
unfoldable pub full_line : Name → List ℕ
full_line x = ascii "full " ++ (total_name x ++ ascii "\n")

-- a total is printed: an answer's if its number is in force, any other always
abbrev pub printed : Name → Bool
printed (Kind k) = true
printed (Number n) = in_table n
printed (Done op) = true
printed (Failed op) = true
printed CarsIn = true
printed CarsOut = true
printed MostCars = true

-- those of a list that pass a test
unfoldable pub filtered : {A : Type 0} → (A → Bool) → List A → List A
filtered test [] = []
filtered test (x ∷ xs) = let r = filtered test xs in cond (test x) (x ∷ r) r

-- the places of the totals that are printed
unfoldable pub in_force : List ℕ
in_force = filtered (λ p. printed (name_at p)) (from 0 size)

-- the report's lines
unfoldable pub report_lines : Totals → List (List ℕ)
report_lines t = map (λ p. line_of (name_at p) (get_or t.counts p 0)) in_force

-- what is printed of totals of which the one at a place is full, or none
unfoldable pub report_of : Totals → Option ℕ → List ℕ
report_of t None = join (report_lines t)
report_of t (Some place) = full_line (name_at place)

-- a text as its bytes in room for the longest report, zeros past it, and how many they are
abbrev pub text_of : List ℕ → Text
text_of s = record { bytes = s ++ replicate (1092 - length s) 0; size = length s }
