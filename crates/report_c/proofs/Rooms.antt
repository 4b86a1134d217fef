-- What each entry answers and leaves, case by case. Assumes nothing.
use mathlib.Core.Path.{◌≡◌, refl, ap, ◌∙◌}
use mathlib.Core.Bool.{Bool, true, false, not}
use mathlib.Core.List.{List, ◌++◌}
use Prim.Native.Nat.{ℕ, ◌+◌, ◌*◌, ◌-◌, ◌≤◌, ◌<◌}
use native.Mathlib.Omega.{arith}
use borrow.Author.Tests.{lt-ltb, le-ltb}
use lib.ListN.{length, take, drop, replicate, length-append}
use lib.Seq.{take_at, take-length, length-take-le}
use Rattle.bits.proofs.Cases.{passed, failed}
use Rattle.answers.specs.declared.Answer.TheVariants.{Taken, BadField, NoRoom}
use Rattle.answers.specs.Answers.{nowhere}
use Rattle.std.specs.declared.option.Option.{Option}
use Rattle.std.specs.declared.option.Option.TheVariants.{Some, None}
use Rattle.totals.specs.declared.Totals.{Totals}
use Rattle.totals.specs.Totals.{totals_of, counted_in, LeavesCounts, blank}
use Rattle.week.specs.Weeks.{happened}
use Rattle.station.specs.declared.Station.{Station}
use Rattle.report_text.specs.declared.Text.{Text}
use Rattle.report_text.specs.Lines.{report_of, text_of}
use Rattle.rooms.specs.Rooms.{station_of, lent_station, returned, LeavesRoom, writes}
use Rattle.report_c.specs.Entries.{totals_bytes, totals_in, starting, full_number, full_by, tallied, counting, known_full, texting, lining}
use Rattle.codec.proofs.Fours.{bytes_to, bytes_length}

pub totals_size : (t : Totals) → length (totals_bytes t) ≡ 208
unfolding totals_bytes bytes_to
totals_size t = bytes_length t.counts 52

-- totals that are written
pub written : (t : Totals) (room : List ℕ) {r : ℕ} {last : List ℕ} → r ≡ returned Taken → last ≡ totals_bytes t ++ drop 208 room
    → LeavesRoom (writes Taken (totals_bytes t) room) r last
unfolding writes
written t room e l = (e, l ∙ rw (totals_size t))

-- ---- a new report

module _ (room : List ℕ) {r : ℕ} where
  pub start_short : length room < 208 → r ≡ returned NoRoom → LeavesRoom (starting room) r room
  unfolding starting
  start_short h e = rw (lt-ltb _ _ h) (e, refl)

  pub start_written : {last : List ℕ} → 208 ≤ length room → r ≡ returned Taken → last ≡ totals_bytes blank ++ drop 208 room
      → LeavesRoom (starting room) r last
  unfolding starting
  start_written h e l = rw (le-ltb _ _ h) (written blank room e l)

-- ---- a message

-- a room that is long enough holds the station that it lends
lent_is : (station : List ℕ) {s : Station} → 60 ≤ length station → s ≡ lent_station station → s ≡ station_of station
unfolding lent_station
lent_is station l e = e ∙ rw (le-ltb _ _ l)

module _ (room station message : List ℕ) {r : ℕ} where
  pub count_short : length room < 208 → r ≡ returned NoRoom → LeavesRoom (counting room station message) r room
  unfolding counting
  count_short h e = rw (lt-ltb _ _ h) (e, refl)

  pub station_short : 208 ≤ length room → length station < 60 → r ≡ returned NoRoom → LeavesRoom (counting room station message) r room
  unfolding counting
  station_short h l e = rw (le-ltb _ _ h, lt-ltb _ _ l) (e, refl)

  module _ (h : 208 ≤ length room) (l : 60 ≤ length station) {s : Station} {t : Totals} (e : s ≡ lent_station station) (f : t ≡ totals_in room)
      {full : Option ℕ} {after : List ℕ} (c : LeavesCounts (counted_in (totals_of t.counts) (happened s message)) full after) where
    pub count_full : (place : ℕ) → full ≡ Some place → r ≡ full_number + 256 * place → LeavesRoom (counting room station message) r room
    unfolding counting tallied
    count_full place z g = rw (le-ltb _ _ h, le-ltb _ _ l, ← lent_is station l e, ← f, ← c.full, z) (g, refl)

    pub count_written : {last : List ℕ} → full ≡ None → r ≡ returned Taken → last ≡ totals_bytes (totals_of after) ++ drop 208 room
        → LeavesRoom (counting room station message) r last
    unfolding counting tallied
    count_written z g w = rw (le-ltb _ _ h, le-ltb _ _ l, ← lent_is station l e, ← f, ← c.full, z) (written _ room g (w ∙ rw c.counts))

-- ---- the text

-- some bytes of a line are written, or there is no room
module _ (line : List ℕ) (size : ℕ) (out : List ℕ) (enough : size ≤ length line) {r : ℕ} where
  pub text_short : length out < size → r ≡ returned NoRoom → LeavesRoom (texting (take size line) out) r out
  unfolding texting
  text_short h e = rw (length-take-le size line enough, lt-ltb _ _ h) (e, refl)

  pub text_written : {told : ℕ} {last : List ℕ} → size ≤ length out → told ≡ returned Taken → r ≡ told + 65536 * size
      → last ≡ take (length (take size line)) (take size line) ++ drop (length (take size line)) out → LeavesRoom (texting (take size line) out) r last
  unfolding texting
  text_written h e f l =
      let all = length-take-le size line enough in
      rw (all, le-ltb _ _ h) (f ∙ ap (λ (n : ℕ). n + 65536 * size) e, l ∙ rw (take-length, all))

-- a text has no more bytes than its room
pub text_fits : (s : List ℕ) (x : Text) → x ≡ text_of s → x.size ≤ length x.bytes
text_fits s x e =
    let size : x.size ≡ length s = ap (λ (t : Text). t.size) e in
    let bytes : length x.bytes ≡ length s + length {A = ℕ} (replicate (1092 - length s) 0) =
    ap (λ (t : Text). length t.bytes) e ∙ length-append s (replicate (1092 - length s) 0) in
    omega arith

-- its own bytes
text_bytes : (s : List ℕ) (x : Text) → x ≡ text_of s → take x.size x.bytes ≡ s
text_bytes s x e = ap (λ (t : Text). take t.size t.bytes) e ∙ take_at s (replicate (1092 - length s) 0) (length s) refl

module _ (room : List ℕ) (full : ℕ) (out : List ℕ) {b : Bool} (asked : b ≡ known_full full) {r : ℕ} where
  pub lines_unknown : not b ≡ true → r ≡ returned (BadField nowhere) → LeavesRoom (lining room full out) r out
  unfolding lining
  lines_unknown h e = rw (failed asked h) (e, refl)

  pub lines_short : not b ≡ false → length room < 208 → r ≡ returned NoRoom → LeavesRoom (lining room full out) r out
  unfolding lining
  lines_short h l e = rw (passed asked h, lt-ltb _ _ l) (e, refl)

  pub lines_written : {t : Totals} {x : Text} {last : List ℕ} → not b ≡ false → 208 ≤ length room → t ≡ totals_in room → x ≡ text_of (report_of t (full_by full))
      → LeavesRoom (texting (take x.size x.bytes) out) r last → LeavesRoom (lining room full out) r last
  unfolding lining
  lines_written {t} {x} h l e f w = rw (passed asked h, le-ltb _ _ l, ← e, ← text_bytes (report_of t (full_by full)) x f) w
