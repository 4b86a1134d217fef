-- What the private functions work out: the places at which a message counts, and what becomes of the totals there. Assumes nothing.
use Rattle.std.specs.Prelude.{Bool, cond, ◌&&◌, List, ℕ, ◌+◌, ◌-◌, ◌<◌, max, eqb, leb, ltb, get_or, set}
use Rattle.std.specs.declared.option.Option.{Option}
use Rattle.std.specs.declared.option.Option.TheVariants.{Some, None}
use Rattle.totals.specs.declared.Happened.{Happened}
use Rattle.totals.specs.declared.Mark.{Mark}
use Rattle.totals.specs.declared.Marks.{Marks}
use Rattle.totals.specs.Totals.{most_counted}

-- one more at the place of x, where x is one of the n numbers from a on, whose totals stand from place p on; else none more
unfoldable pub count_mark : ℕ → ℕ → ℕ → ℕ → Mark
count_mark p n a x = cond (leb a x && ltb x (a + n)) (record { at = p + (x - a); more = 1 }) (record { at = p; more = 0 })

-- where the totals of results begin
abbrev pub results_from : Bool → ℕ
results_from done = cond done 39 44

-- where a message counts
unfoldable pub count_marks : Happened → Marks
count_marks h = record {
  kind = count_mark 0 5 1 h.kind;
  answer = count_mark 5 34 0 h.answer;
  result = count_mark (results_from h.done) 5 1 h.op;
  drive = count_mark 49 2 1 h.drive;
}

-- its places are among those of the totals
pub record MarksWithin (m : Marks) : Type 0 where
  pub kind : m.kind.at < 52
  pub answer : m.answer.at < 52
  pub result : m.result.at < 52
  pub drive : m.drive.at < 52

-- whether a total to which so much is added is about to pass the most
abbrev pub about_full : ℕ → ℕ → Bool
about_full n more = eqb more 1 && leb most_counted n

-- whether the total at a mark's place is
abbrev pub fills : List ℕ → Mark → Bool
fills c m = about_full (get_or c m.at 0) m.more

-- the first mark's place at which one is, or none
unfoldable pub full_among : List ℕ → Marks → Option ℕ
full_among c m =
    cond (fills c m.kind) (Some m.kind.at) (cond (fills c m.answer) (Some m.answer.at)
    (cond (fills c m.result) (Some m.result.at) (cond (fills c m.drive) (Some m.drive.at) None)))

-- the totals with what a mark adds
unfoldable pub raised : List ℕ → Mark → List ℕ
raised c m = set c m.at (get_or c m.at 0 + m.more)

-- the totals with the number of cars, if it is more than ever
unfoldable pub with_cars : List ℕ → ℕ → List ℕ
with_cars c n = set c 51 (max (get_or c 51 0) n)

-- the totals with all that a message adds
unfoldable pub raised_all : List ℕ → Happened → List ℕ
raised_all c h =
    let m = count_marks h in
    with_cars (raised (raised (raised (raised c m.kind) m.answer) m.result) m.drive) h.cars
