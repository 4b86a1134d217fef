-- What the code's steps need of the marks: that each total has room when it is raised, and which place is told. Assumes nothing.
use mathlib.Core.Path.{◌≡◌, refl, ap, ap₂, ◌∙◌}
use mathlib.Core.Bool.{Bool, true, false, cond, not, ◌||◌}
use mathlib.Core.List.{List}
use Prim.Native.Nat.{ℕ, ◌+◌, ◌≤◌, ◌<◌}
use native.Mathlib.Omega.{arith}
use lib.ListN.{get_or}
use lib.Seq.{get_or-set_other}
use borrow.Author.Tests.{not-false}
use Rattle.bits.proofs.Cases.{clash, off}
use Rattle.std.specs.declared.option.Option.{Option}
use Rattle.std.specs.declared.option.Option.TheVariants.{Some, None}
use Rattle.std.specs.Prelude.{is_none}
use Rattle.totals.specs.declared.Mark.{Mark}
use Rattle.totals.specs.declared.Marks.{Marks}
use Rattle.totals.specs.declared.Happened.{Happened}
use Rattle.totals.specs.declared.Tally.{Tally}
use Rattle.totals.specs.Totals.{counted_in, totals_of, LeavesCounts}
use Rattle.totals.specs.Private.{count_marks, about_full, fills, full_among, raised, raised_all}
use Rattle.totals.proofs.Placing.{in_kinds, in_answers, in_results, results_low, results_high, in_drives, marks_within}
use Rattle.totals.proofs.Counting.{counted_is}

-- ---- the place that is told

-- where no place is told, none is
pub none_told : (o : Option ℕ) → is_none o ≡ true → o ≡ None
none_told None e = refl
none_told (Some p) e = clash e refl

pub some_none : (p : ℕ) → Some p ≡ None → ⊥
some_none p e = clash {b = is_none (Some p)} (ap is_none e) refl

module _ (c : List ℕ) (m : Marks) {x y z w : Bool} (ex : x ≡ fills c m.kind) (ey : y ≡ fills c m.answer) (ez : z ≡ fills c m.result)
    (ew : w ≡ fills c m.drive) where
  pub told_none : not (x || y || z || w) ≡ true → None ≡ full_among c m
  unfolding full_among
  told_none t = rw (← ex, ← ey, ← ez, ← ew) (go x y z w t)
    where
      go : (x y z w : Bool) → not (x || y || z || w) ≡ true → None ≡ cond x (Some m.kind.at) (cond y (Some m.answer.at)
          (cond z (Some m.result.at) (cond w (Some m.drive.at) None)))
      go false false false false t = refl
      go true y z w t = clash t refl
      go false true z w t = clash t refl
      go false false true w t = clash t refl
      go false false false true t = clash t refl

  pub told_1 : x ≡ true → Some m.kind.at ≡ full_among c m
  unfolding full_among
  told_1 a = rw (← ex, a)

  pub told_2 : x ≡ false → y ≡ true → Some m.answer.at ≡ full_among c m
  unfolding full_among
  told_2 a b = rw (← ex, ← ey, a, b)

  pub told_3 : x ≡ false → y ≡ false → z ≡ true → Some m.result.at ≡ full_among c m
  unfolding full_among
  told_3 a b d = rw (← ex, ← ey, ← ez, a, b, d)

  pub told_4 : x ≡ false → y ≡ false → z ≡ false → not (x || y || z || w) ≡ false → Some m.drive.at ≡ full_among c m
  unfolding full_among
  told_4 a b d e = rw (← ex, ← ey, ← ez, ← ew, a, b, d, last (simp (a, b, d) at e))
    where
      last : not w ≡ false → w ≡ true
      last q = not-false w q

-- ---- the totals that are raised

-- what a total needs to be raised
abbrev pub Ready : List ℕ → Mark → Type 0
Ready c m = (m.at < 52) × (m.more ≤ 1) × (fills c m ≡ false)

-- a total that was not raised is as full as before
unraised : (c : List ℕ) (n m : Mark) → n.at < m.at → fills (raised c n) m ≡ fills c m
unfolding raised
unraised c n m l = ap (λ (v : ℕ). about_full v m.more) (get_or-set_other c n.at m.at (get_or c n.at 0 + n.more) 0 (λ e. omega arith))

module _ (c : List ℕ) (h : Happened) (none : full_among c (count_marks h) ≡ None) where
  kind_free : fills c (count_marks h).kind ≡ false
  unfolding full_among
  kind_free = off (fills c (count_marks h).kind) (λ t. some_none _ (rw t at none))

  answer_free : fills c (count_marks h).answer ≡ false
  unfolding full_among
  answer_free = off (fills c (count_marks h).answer) (λ t. some_none _ (rw (kind_free, t) at none))

  result_free : fills c (count_marks h).result ≡ false
  unfolding full_among
  result_free = off (fills c (count_marks h).result) (λ t. some_none _ (rw (kind_free, answer_free, t) at none))

  drive_free : fills c (count_marks h).drive ≡ false
  unfolding full_among
  drive_free = off (fills c (count_marks h).drive) (λ t. some_none _ (rw (kind_free, answer_free, result_free, t) at none))

  pub ready_1 : Ready c (count_marks h).kind
  ready_1 = ((marks_within h).kind, (in_kinds h).small, kind_free)

  pub ready_2 : Ready (raised c (count_marks h).kind) (count_marks h).answer
  ready_2 = (
    (marks_within h).answer,
    (in_answers h).small,
    unraised c (count_marks h).kind (count_marks h).answer
        (omega (arith, (in_kinds h).high, (in_answers h).low)) ∙ answer_free,
  )

  pub ready_3 : Ready (raised (raised c (count_marks h).kind) (count_marks h).answer) (count_marks h).result
  ready_3 = (
    (marks_within h).result,
    (in_results h).small,
    unraised (raised c (count_marks h).kind) (count_marks h).answer (count_marks h).result (omega (arith, (in_answers h).high, results_low h))
        ∙ unraised c (count_marks h).kind (count_marks h).result (omega (arith, (in_kinds h).high, results_low h)) ∙ result_free,
  )

  pub ready_4 : Ready (raised (raised (raised c (count_marks h).kind) (count_marks h).answer) (count_marks h).result) (count_marks h).drive
  ready_4 = (
    (marks_within h).drive,
    (in_drives h).small,
    unraised (raised (raised c (count_marks h).kind) (count_marks h).answer) (count_marks h).result (count_marks h).drive
        (omega (arith, results_high h, (in_drives h).low))
        ∙ unraised (raised c (count_marks h).kind) (count_marks h).answer (count_marks h).drive (omega (arith, (in_answers h).high, (in_drives h).low))
        ∙ unraised c (count_marks h).kind (count_marks h).drive (omega (arith, (in_kinds h).high, (in_drives h).low)) ∙ drive_free,
  )

  -- all are raised, and none is told
  pub all_raised : (after : List ℕ) → after ≡ raised_all c h → LeavesCounts (counted_in (totals_of c) h) None after
  all_raised after e = rw (counted_is c h, none) (record { full = refl; counts = e })

-- one is told, and none is raised
pub all_stay : (c : List ℕ) (h : Happened) (p : Option ℕ) → p ≡ full_among c (count_marks h) → is_none p ≡ false → LeavesCounts (counted_in (totals_of c) h) p c
all_stay c h p e n = rw (counted_is c h, ← e, n) (record { full = refl; counts = refl })

-- the totals and the place that are held
pub as_held : (c : Tally) (place : Option ℕ) (after : List ℕ) → LeavesCounts c place after → ◌≡◌ {A = Tally} (record { totals = totals_of after; full = place }) c
as_held c place after x = ap₂ made x.counts x.full
  where
    made : List ℕ → Option ℕ → Tally
    made l p = record { totals = totals_of l; full = p }
