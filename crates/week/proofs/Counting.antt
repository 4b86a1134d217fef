-- A count over some bytes: as many turns as bytes are enough, so it is its first message and then the count of the rest; and the loop that
-- goes so. Assumes nothing.
use mathlib.Core.Path.{◌≡◌, refl, sym, ap, ◌∙◌}
use mathlib.Core.Bool.{Bool, true, false, cond}
use mathlib.Core.List.{List, [], ◌∷◌}
use Prim.Native.Nat.{ℕ, zero, suc, ◌+◌, ◌≤◌}
use native.Mathlib.Nat.{add_assoc, add-zero, zero-add}
use native.Mathlib.Omega.{arith}
use lib.ListN.{length, drop, length-drop}
use lib.Seq.{drop-drop}
use Rattle.std.specs.declared.option.Option.{Option}
use Rattle.std.specs.declared.option.Option.TheVariants.{None}
use Rattle.std.specs.Prelude.{is_none}
use Rattle.station.specs.declared.Station.{Station}
use Rattle.wire.specs.declared.Frame.{Frame}
use Rattle.wire.specs.declared.Frame.TheVariants.{Cut, Wrong, Whole}
use Rattle.wire.specs.Reads.{frame_of}
use Rattle.wire.proofs.Frames.{whole_frame}
use Rattle.service.specs.Service.{respond}
use Rattle.service.proofs.Running.{none_cut, shorter}
use Rattle.totals.specs.declared.Happened.{Happened}
use Rattle.totals.specs.declared.Totals.{Totals}
use Rattle.totals.specs.declared.Tally.{Tally}
use Rattle.totals.specs.Totals.{LeavesCounts, totals_of, counted_in}
use Rattle.week.specs.Weeks.{happened}
use Rattle.week.specs.Counts.{uncounted, Counting, Counts, count_ends, count_further, count_after, count_for, count_on, count_end}

-- ---- the end of the input

pub none_left : (c : List ℕ) (s : Station) (held : List ℕ) → length held ≡ 0 → LeavesCounts (count_end (totals_of c) s held) None c
unfolding count_end
none_left c s [] e = record { full = refl; counts = refl }
none_left c s (b ∷ bs) e = absurd (omega arith)

pub some_left : (c : List ℕ) (s : Station) (held : List ℕ) {p : Option ℕ} {after : List ℕ} → (length held ≡ 0 → ⊥)
    → LeavesCounts (counted_in (totals_of c) (happened s held)) p after → LeavesCounts (count_end (totals_of c) s held) p after
unfolding count_end
some_left c s [] e h = absurd (e refl)
some_left c s (b ∷ bs) e h = h

-- ---- turns

same_after : (f : Frame) (go ho : Totals → Station → List ℕ → Counting) (t : Totals) (s : Station) (input : List ℕ) → frame_of input ≡ f
    → ((u : Totals) (x : Station) (rest : List ℕ) → length rest + 4 ≤ length input → go u x rest ≡ ho u x rest)
    → count_after f go t s input ≡ count_after f ho t s input
same_after Cut go ho t s input e h = refl
same_after Wrong go ho t s input e h = refl
same_after (Whole n) go ho t s input e h =
    let c = counted_in t (happened s input) in
    ap (λ (w : Counting). cond (is_none c.full) (count_further n w) (count_ends s c true))
    (h c.totals (respond s input).station (drop n input) (shorter input n e))

-- more turns than bytes change nothing
pub same_count : (k j : ℕ) (t : Totals) (s : Station) (input : List ℕ) → length input ≤ k → length input ≤ j → count_for k t s input ≡ count_for j t s input
unfolding count_for
same_count zero zero t s input h g = refl
same_count zero (suc j) t s input h g = rw (none_cut input h)
same_count (suc k) zero t s input h g = rw (none_cut input g)
same_count (suc k) (suc j) t s input h g =
    same_after (frame_of input) (count_for k) (count_for j) t s input refl (λ u x rest l. same_count k j u x rest (omega arith) (omega arith))

-- one turn, and then as many as there were
unrolled : (t : Totals) (s : Station) (input : List ℕ) → count_on t s input ≡ count_after (frame_of input) (count_for (length input)) t s input
unfolding count_for
unrolled t s input = same_count (length input) (suc (length input)) t s input (omega arith) (omega arith)

turn_cut : (t : Totals) (s : Station) (input : List ℕ) → frame_of input ≡ Cut → count_on t s input ≡ count_ends s (uncounted t) false
turn_cut t s input e = unrolled t s input ∙ rw e

turn_wrong : (t : Totals) (s : Station) (input : List ℕ) → frame_of input ≡ Wrong
    → count_on t s input ≡ count_ends s (counted_in t (happened s input)) true
turn_wrong t s input e = unrolled t s input ∙ rw e

turn_full : (t : Totals) (s : Station) (input : List ℕ) (n : ℕ) → frame_of input ≡ Whole n
    → is_none (counted_in t (happened s input)).full ≡ false → count_on t s input ≡ count_ends s (counted_in t (happened s input)) true
turn_full t s input n e q = unrolled t s input ∙ rw (e, q)

turn_whole : (t : Totals) (s : Station) (input : List ℕ) (n : ℕ) → frame_of input ≡ Whole n
    → is_none (counted_in t (happened s input)).full ≡ true
    → count_on t s input ≡ count_further n (count_on (counted_in t (happened s input)).totals (respond s input).station (drop n input))
turn_whole t s input n e q =
    let l = shorter input n e in
    unrolled t s input
    ∙ rw (e, q)
    (ap (count_further n)
    (same_count (length input) (length (drop n input)) (counted_in t (happened s input)).totals (respond s input).station (drop n input) (omega arith) (omega arith)))

further_none : (w : Counting) → w ≡ count_further 0 w
further_none w = rw (zero-add w.says.used)

further_more : (a b : ℕ) (w : Counting) → count_further a (count_further b w) ≡ count_further (a + b) w
further_more a b w = rw add_assoc

-- ---- the loop

-- the same counted
pub same_held : (c : List ℕ) {h g : Happened} {p : Option ℕ} {last : List ℕ} → h ≡ g
    → LeavesCounts (counted_in (totals_of c) h) p last → LeavesCounts (counted_in (totals_of c) g) p last
same_held c e held = rw (← e) held

-- what is counted by value, where the numbers alone are lent
pub held_by : (c : List ℕ) {h g : Happened} {r : Tally} → h ≡ g → r ≡ counted_in (totals_of c) h → LeavesCounts (counted_in (totals_of c) g) r.full r.totals.counts
held_by c e f =
    let same = f ∙ ap (counted_in (totals_of c)) e in
    record { full = ap (λ (k : Tally). k.full) same; counts = ap (λ (k : Tally). k.totals.counts) same }

-- so far `at` bytes of the input are taken, and a count from here on is what is left of the whole
pub record Midway (input : List ℕ) (before : List ℕ) (s₀ : Station) (counts : List ℕ) (s : Station) (at : ℕ) : Type 0 where
  pub within : at ≤ length input
  pub rest : count_on (totals_of before) s₀ input ≡ count_further at (count_on (totals_of counts) s (drop at input))

pub started : (input before : List ℕ) (s : Station) → Midway input before s before s 0
started input before s = record { within = omega arith; rest = further_none _ }

module _ {input before : List ℕ} {s₀ : Station} {counts : List ℕ} {s : Station} {at : ℕ} (m : Midway input before s₀ counts s at) where
  -- the count ends here
  ended : (c : Tally) (stop : Bool) {p : Option ℕ} {last : List ℕ} → count_on (totals_of counts) s (drop at input) ≡ count_ends s c stop → LeavesCounts c p last
      → Counts (count_on (totals_of before) s₀ input) (record { station = s; used = at; stop = stop; full = p }) last
  ended c stop e h = rw (m.rest ∙ ap (count_further at) e, add-zero, h.full, h.counts) (refl, refl)

  pub cut_short_lem : frame_of (drop at input) ≡ Cut
      → Counts (count_on (totals_of before) s₀ input) (record { station = s; used = at; stop = false; full = None }) counts
  cut_short_lem e = ended (uncounted (totals_of counts)) false (turn_cut (totals_of counts) s (drop at input) e) (record { full = refl; counts = refl })

  -- the message that stands here is counted
  module _ {p : Option ℕ} {last : List ℕ} (held : LeavesCounts (counted_in (totals_of counts) (happened s (drop at input))) p last) where
    pub wrong_length : frame_of (drop at input) ≡ Wrong
        → Counts (count_on (totals_of before) s₀ input) (record { station = s; used = at; stop = true; full = p }) last
    wrong_length e = ended _ true (turn_wrong (totals_of counts) s (drop at input) e) held

    pub one_full : (n : ℕ) → frame_of (drop at input) ≡ Whole n → is_none p ≡ false
        → Counts (count_on (totals_of before) s₀ input) (record { station = s; used = at; stop = true; full = p }) last
    one_full n e q =
        ended _ true (turn_full (totals_of counts) s (drop at input) n e (ap is_none (sym held.full) ∙ q)) held

    pub counted_on : (n : ℕ) {x : Station} → x ≡ (respond s (drop at input)).station → frame_of (drop at input) ≡ Whole n → is_none p ≡ true
        → Midway input before s₀ last x (at + n)
    counted_on n next e q =
        let f = whole_frame (drop at input) n e in
        let l = length-drop at input in
        record {
          within = omega arith;
          rest =
              m.rest
              ∙ ap (count_further at) (turn_whole (totals_of counts) s (drop at input) n e (ap is_none (sym held.full) ∙ q))
              ∙ further_more at n _
              ∙ rw (← next, held.counts, drop-drop n at input);
        }
