-- The count by buffers: all whole messages of some bytes counted one after another, the end of the input, and an input that comes in
-- pieces. Assumes nothing.
use Rattle.std.specs.Prelude.{◌≡◌, Bool, true, false, cond, List, [], ◌∷◌, ◌++◌, ℕ, zero, suc, ◌+◌, length, drop, is_none}
use Rattle.std.specs.declared.option.Option.TheVariants.{None}
use Rattle.station.specs.declared.Station.{Station}
use Rattle.wire.specs.declared.Frame.{Frame}
use Rattle.wire.specs.declared.Frame.TheVariants.{Cut, Wrong, Whole}
use Rattle.wire.specs.Reads.{frame_of}
use Rattle.service.specs.Service.{respond, no_bytes}
use Rattle.totals.specs.declared.Totals.{Totals}
use Rattle.totals.specs.declared.Tally.{Tally}
use Rattle.totals.specs.Totals.{counted_in}
use Rattle.week.specs.declared.Counted.{Counted}
use Rattle.week.specs.Weeks.{happened}

-- nothing is counted
abbrev pub uncounted : Totals → Tally
uncounted t = record { totals = t; full = None }

-- what a count says, and the totals that it leaves
pub record Counting : Type 0 where
  pub says : Counted
  pub leaves : Totals

-- what a count says is said, and the numbers that it leaves are left
abbrev pub Counts : Counting → Counted → List ℕ → Type 0
Counts w r counts = (r ≡ w.says) × (counts ≡ w.leaves.counts)

-- the totals and the place that it tells, if it tells one
abbrev pub tally_in : Counting → Tally
tally_in w = record { totals = w.leaves; full = w.says.full }

-- the count ends here
abbrev pub count_ends : Station → Tally → Bool → Counting
count_ends s c stop = record { says = record { station = s; used = 0; stop = stop; full = c.full }; leaves = c.totals }

-- n bytes taken before it
abbrev pub count_further : ℕ → Counting → Counting
count_further n w =
    record {
      says = record { station = w.says.station; used = n + w.says.used; stop = w.says.stop; full = w.says.full };
      leaves = w.leaves;
    }

-- one message, and then what go says of the rest: a message that is cut short is left; a wrong length is counted and stops the count; so
-- does a total that is full, with the totals and the station as they were
abbrev pub count_after : Frame → (Totals → Station → List ℕ → Counting) → Totals → Station → List ℕ → Counting
count_after Cut go t s input = count_ends s (uncounted t) false
count_after Wrong go t s input = count_ends s (counted_in t (happened s input)) true
count_after (Whole n) go t s input =
    let c = counted_in t (happened s input) in
    cond (is_none c.full) (count_further n (go c.totals (respond s input).station (drop n input))) (count_ends s c true)

-- at most so many messages
unfoldable pub count_for : ℕ → Totals → Station → List ℕ → Counting
count_for zero t s input = count_ends s (uncounted t) false
count_for (suc k) t s input = count_after (frame_of input) (count_for k) t s input

-- all of them: each takes a byte at least
abbrev pub count_on : Totals → Station → List ℕ → Counting
count_on t s input = count_for (length input) t s input

-- the end of the input: bytes that are left over are a message that was cut short
unfoldable pub count_end : Totals → Station → List ℕ → Tally
count_end t s held = cond (no_bytes held) (uncounted t) (counted_in t (happened s held))

-- an input that comes in pieces, with some bytes held from before: each piece is put behind them, all whole messages are counted, and the
-- rest is held; after a stop nothing more is read
unfoldable pub count_fed : Totals → Station → List ℕ → List (List ℕ) → Tally
count_fed t s held [] = count_end t s held
count_fed t s held (p ∷ ps) =
    let w = count_on t s (held ++ p) in
    cond w.says.stop (tally_in w) (count_fed w.leaves w.says.station (drop w.says.used (held ++ p)) ps)
