-- What the contracts of private functions cite; no public one rests on it. Assumes nothing.
use Rattle.std.specs.Prelude.{cond, ◌||◌, ◌++◌, ℕ, zero, suc, ◌+◌, ◌*◌, eqb, ltb, leb, take, drop}
use Rattle.std.specs.declared.option.Option.{Option}
use Rattle.std.specs.declared.option.Option.TheVariants.{Some, None}
use Rattle.station.specs.declared.Station.{Station}
use Rattle.desk.specs.declared.Line.{Line}
use Rattle.desk.specs.declared.Lines.{Lines}
use Rattle.desk.specs.Questions.{mover_of}
use Rattle.desk.specs.Lines.{most_lines, line_bytes}

-- a line laid into held lines, where there is room; one with the card 0 is none
unfoldable pub line_laid : Lines → Line → Lines
line_laid ls l =
    let at = 8 * ls.count in
    cond (eqb l.card 0 || leb most_lines ls.count) ls
    (record { count = ls.count + 1; bytes = take at ls.bytes ++ (line_bytes l ++ drop (at + 8) ls.bytes) })

-- the lines of n elements, one after the other
unfoldable pub lines_laid : Lines → ℕ → (ℕ → Line) → Lines
lines_laid ls zero f = ls
lines_laid ls (suc n) f = line_laid (lines_laid ls n f) (f n)

-- the first instruction that moves the car at place k, if there is one
abbrev pub mover_in : Station → ℕ → Option ℕ
mover_in s k = cond (ltb (mover_of s k) s.count) (Some (mover_of s k)) None
