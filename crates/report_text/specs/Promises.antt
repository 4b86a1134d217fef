-- What is promised of the report's text. Proved in proofs/Promises.antt. Assumes nothing.
use Rattle.std.specs.Prelude.{◌≡◌, true, ℕ, ◌+◌, ◌≤◌, ◌<◌, length, get_or}
use Rattle.std.specs.declared.option.Option.{Option}
use Rattle.bits.specs.Bits.{count}
use Rattle.bits.specs.Places.{from}
use Rattle.answers.specs.Answers.{in_table}
use Rattle.totals.specs.declared.Totals.{Totals}
use Rattle.totals.specs.Totals.{size, name_at, most_counted}
use Rattle.totals.specs.declared.Name.TheVariants.{Number}
use Rattle.codec.specs.Text.{decimal}
use Rattle.report_text.specs.Lines.{total_name, report_lines, report_of}

-- no two numbers have the same text
abbrev pub NumbersDiffer : Type 0
NumbersDiffer = (m n : ℕ) → decimal m ≡ decimal n → m ≡ n

-- no two totals have the same name
abbrev pub NamesDiffer : Type 0
NamesDiffer = (p q : ℕ) → p < size → q < size → total_name (name_at p) ≡ total_name (name_at q) → p ≡ q

-- every number of the table has its total
abbrev pub NumbersPlaced : Type 0
NumbersPlaced = (n : ℕ) → in_table n ≡ true → (5 + n < size) × (name_at (5 + n) ≡ Number n)

-- there are as many lines as names in force: the numbers of the table, five kinds, ten of results, three of cars
abbrev pub AsManyLines : Type 0
AsManyLines = (t : Totals) → length (report_lines t) ≡ count (from 0 256) in_table + 18

-- no report has more than 1,092 bytes
abbrev pub ReportFits : Type 0
ReportFits = (t : Totals) (full : Option ℕ) → ((p : ℕ) → get_or t.counts p 0 ≤ most_counted) → length (report_of t full) ≤ 1092
