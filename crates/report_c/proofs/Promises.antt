-- The promises of specs/Promises.antt; those of the bytes' form stand in Forms. Assumes nothing.
use mathlib.Core.Path.{refl}
use mathlib.Core.Bool.{not, ◌||◌}
use mathlib.Core.Logic.{inl, inr}
use native.Mathlib.Omega.{arith}
use lib.Dec.{ltb}
use lib.ListN.{length}
use Rattle.bits.proofs.Cases.{split}
use Rattle.rooms.specs.Rooms.{station_of, writes}
use Rattle.week.specs.Weeks.{happened}
use Rattle.std.specs.Prelude.{is_none}
use Rattle.totals.specs.Totals.{counted_in}
use Rattle.report_text.specs.Lines.{report_of}
use Rattle.report_c.specs.Entries.{totals_in, starting, tallied, counting, full_by, known_full, texting, lining}
use Rattle.report_c.specs.Promises.{TotalsFit, ReportEntryUntouched, ReportNumbersReturned}
use Rattle.report_c.proofs.Rooms.{totals_size}

pub totals_fit : TotalsFit
totals_fit = totals_size

pub refused_untouched : ReportEntryUntouched
unfolding starting counting tallied lining texting writes
refused_untouched = (
  λ room h. split (ltb (length room) 208) (λ t. rw t) (λ t. absurd (h (rw t))),
  λ room station message h. split (ltb (length room) 208 || ltb (length station) 60)
      (λ t. rw t)
      (λ t. let c = counted_in (totals_in room) (happened (station_of station) message) in
      split (is_none c.full) (λ u. absurd (h (rw (t, u)))) (λ u. rw (t, u))),
  λ room full out h. split (not (known_full full))
      (λ t. rw t)
      (λ t. split (ltb (length room) 208)
      (λ u. rw (t, u))
      (λ u. let text = report_of (totals_in room) (full_by full) in
      split (ltb (length out) (length text)) (λ v. rw (t, u, v)) (λ v. absurd (h (rw (t, u, v) (omega arith)))))),
)

pub numbers_returned : ReportNumbersReturned
unfolding starting counting tallied lining texting writes
numbers_returned = (
  λ room. split (ltb (length room) 208) (λ t. rw t (inr refl)) (λ t. rw t (inl refl)),
  λ room station message. split (ltb (length room) 208 || ltb (length station) 60)
      (λ t. rw t (inr (inl refl)))
      (λ t. let c = counted_in (totals_in room) (happened (station_of station) message) in
      split (is_none c.full) (λ u. rw (t, u) (inl refl)) (λ u. rw (t, u) (inr (inr (omega arith))))),
  λ room full out. split (not (known_full full))
      (λ t. rw t (inr (inl refl)))
      (λ t. split (ltb (length room) 208)
      (λ u. rw (t, u) (inr (inr refl)))
      (λ u. let text = report_of (totals_in room) (full_by full) in
      split (ltb (length out) (length text)) (λ v. rw (t, u, v) (inr (inr refl))) (λ v. rw (t, u, v) (inl (omega arith))))),
)
