-- The promises of specs/Promises.antt. Assumes nothing.
use mathlib.Core.Path.{◌≡◌, refl, sym, ap, ap₂, ◌∙◌}
use mathlib.Core.Bool.{◌||◌}
use mathlib.Core.Logic.{◌⊎◌, inl, inr}
use mathlib.Core.List.{List, ◌++◌, append_assoc}
use Prim.Native.Nat.{ℕ, ◌+◌, ◌*◌, ◌%◌}
use native.Mathlib.Omega.{arith}
use borrow.Author.Tests.{ne_eqb}
use lib.Dec.{eqb, ltb}
use lib.ListN.{length, take, drop, length-append, length-drop}
use lib.Seq.{take-add, drop_at}
use Rattle.bits.proofs.Cases.{split}
use Rattle.answers.specs.declared.Answer.TheVariants.{Taken, NoRoom}
use Rattle.station.specs.declared.Station.{Station}
use Rattle.codec.proofs.Numbers.{bytes_drop}
use Rattle.codec.specs.Fours.{fours_in, fours_bytes}
use Rattle.codec.proofs.Fours.{bytes_to, bytes_length}
use Rattle.codec.proofs.Forms.{fours_read_back, fours_one_form}
use Rattle.rooms.specs.Rooms.{station_bytes, image_bytes, writes, telling}
use Rattle.rooms.proofs.Promises.{station_fits, station_reads_back, station_one_form}
use Rattle.desk.specs.Desk.{reply_number}
use Rattle.desk.specs.declared.Reply.{Reply}
use Rattle.desk.specs.declared.Reply.TheVariants.{Told, ZeroNumber, KnownNumber, WrongCount}
use Rattle.desk.specs.declared.Whereabouts.{Whereabouts}
use Rattle.desk.specs.declared.Whereabouts.TheVariants.{At, LastKnown, Moving, NotHere}
use Rattle.std.specs.declared.option.Option.{Option}
use Rattle.std.specs.declared.option.Option.TheVariants.{Some, None}
use Rattle.std.specs.declared.result.Result.{Result}
use Rattle.std.specs.declared.result.Result.TheVariants.{Ok, Err}
use Rattle.desk.specs.declared.AskError.{AskError}
use Rattle.desk.specs.Calls.{desk_ask}
use Rattle.desk.specs.Questions.{whereabouts, leaving}
use Rattle.desk.specs.Lines.{held_lines, listed_cars, outstanding}
use Rattle.desk_c.specs.Entries.{desk_bytes, desk_of, replied, shows, desk_entry, desk_asking, where_said, finding, leaving_entry, parting, count_told, listing, open_bytes, open_shown, comparing}
use Rattle.desk_c.specs.Promises.{DeskFits, DeskReadsBack, DeskOneForm, RepliedReadsBack, WhereReadsBack, DeskEntryUntouched, OfDesk, DeskNumbersReturned}
use Rattle.desk_c.proofs.Rooms.{reply_byte, reply_number_lem}

-- ---- a desk in bytes

pub desk_fits : DeskFits
unfolding desk_bytes bytes_to
desk_fits d t =
    length-append (station_bytes d.station) (fours_bytes 42 d.numbers)
    ∙ ap₂ (λ (a b : ℕ). a + b) (station_fits d.station t.station) (bytes_length d.numbers 42)

pub desk_reads_back : DeskReadsBack
unfolding desk_bytes desk_of
desk_reads_back d past t =
    let s = station_bytes d.station in
    let a = fours_bytes 42 d.numbers in
    ap desk_of (append_assoc s a past)
    ∙ ap₂ (λ (x : Station) (n : List ℕ). record { station = x; numbers = n }) (station_reads_back d.station (a ++ past) t.station)
    (ap (fours_in 42) (drop_at s (a ++ past) 60 (station_fits d.station t.station)) ∙ fours_read_back 42 d.numbers past t.places t.small)

pub desk_one_form : DeskOneForm
unfolding desk_bytes desk_of
desk_one_form room b h =
    ap₂ (λ (x y : List ℕ). x ++ y) (station_one_form room b (omega arith))
    (fours_one_form 42 (drop 60 room) (bytes_drop 60 room b) (rw length-drop (omega arith)))
    ∙ sym (take-add 60 168 room)

-- ---- what is said reads back

pub replied_reads_back : RepliedReadsBack
replied_reads_back a = let h = reply_byte a in (omega arith, λ l. (omega arith, omega arith))

pub where_reads_back : WhereReadsBack
where_reads_back (Ok (At k)) (Ok (At j)) l m e = let z : k ≡ j = omega arith in ap (λ (n : ℕ). Ok (At n)) z
where_reads_back (Ok (At k)) (Ok (LastKnown j)) l m e = absurd (omega arith)
where_reads_back (Ok (At k)) (Ok (Moving j n)) l m e = absurd (omega arith)
where_reads_back (Ok (At k)) (Ok NotHere) l m e = absurd (omega arith)
where_reads_back (Ok (At k)) (Err AskError.Unfit) l m e = absurd (omega arith)
where_reads_back (Ok (LastKnown k)) (Ok (At j)) l m e = absurd (omega arith)
where_reads_back (Ok (LastKnown k)) (Ok (LastKnown j)) l m e = let z : k ≡ j = omega arith in ap (λ (n : ℕ). Ok (LastKnown n)) z
where_reads_back (Ok (LastKnown k)) (Ok (Moving j n)) l m e = absurd (omega arith)
where_reads_back (Ok (LastKnown k)) (Ok NotHere) l m e = absurd (omega arith)
where_reads_back (Ok (LastKnown k)) (Err AskError.Unfit) l m e = absurd (omega arith)
where_reads_back (Ok (Moving k i)) (Ok (At j)) l m e = absurd (omega arith)
where_reads_back (Ok (Moving k i)) (Ok (LastKnown j)) l m e = absurd (omega arith)
where_reads_back (Ok (Moving k i)) (Ok (Moving j n)) l m e =
    let y : i ≡ n = omega (arith, e, l.0, m.0) in
    let z : k ≡ j = omega (arith, e, y) in
    ap₂ (λ (m n : ℕ). Ok (Moving m n)) z y
where_reads_back (Ok (Moving k i)) (Ok NotHere) l m e = absurd (omega arith)
where_reads_back (Ok (Moving k i)) (Err AskError.Unfit) l m e = absurd (omega arith)
where_reads_back (Ok NotHere) (Ok (At j)) l m e = absurd (omega arith)
where_reads_back (Ok NotHere) (Ok (LastKnown j)) l m e = absurd (omega arith)
where_reads_back (Ok NotHere) (Ok (Moving j n)) l m e = absurd (omega arith)
where_reads_back (Ok NotHere) (Ok NotHere) l m e = refl
where_reads_back (Ok NotHere) (Err AskError.Unfit) l m e = absurd (omega arith)
where_reads_back (Err AskError.Unfit) (Ok (At j)) l m e = absurd (omega arith)
where_reads_back (Err AskError.Unfit) (Ok (LastKnown j)) l m e = absurd (omega arith)
where_reads_back (Err AskError.Unfit) (Ok (Moving j n)) l m e = absurd (omega arith)
where_reads_back (Err AskError.Unfit) (Ok NotHere) l m e = absurd (omega arith)
where_reads_back (Err AskError.Unfit) (Err AskError.Unfit) l m e = refl

-- ---- refused, nothing is written

refused_shows : (a : Reply) (bytes room : List ℕ) → (replied a % 256 ≡ 0 → ⊥) → (shows a bytes room).leaves ≡ room
unfolding shows
refused_shows a bytes room h = rw (ne_eqb (reply_number a) 0 (λ z. h (reply_number_lem a ∙ z)))

refused_leaving : (x : Result (Option ℕ) AskError) (out : List ℕ) → ((leaving_entry x out).says % 256 ≡ 0 → ⊥) → (leaving_entry x out).leaves ≡ out
unfolding writes
refused_leaving (Ok (Some c)) out h = absurd (h refl)
refused_leaving (Ok None) out h = absurd (h refl)
refused_leaving (Err AskError.Unfit) out h = refl

refused_telling : (n : ℕ) (bytes out : List ℕ) → ((telling n bytes out).says % 256 ≡ 0 → ⊥) → (telling n bytes out).leaves ≡ out
unfolding telling
refused_telling n bytes out h = split (ltb (length out) (length bytes)) (λ t. rw t) (λ t. rw t (rw (ne_eqb (n % 256) 0 (λ z. h (rw t z)))))

pub refused_untouched : DeskEntryUntouched
unfolding desk_entry desk_asking parting listing open_shown comparing shows
refused_untouched = (
  λ call room h. split (ltb (length room) 228)
      (λ t. rw t)
      (λ t. let o = call (desk_of room) in rw t (refused_shows o.reply (desk_bytes o.desk) room (λ z. h (rw t z)))),
  λ room image h. split (ltb (length room) 228 || ltb (length image) 16)
      (λ t. rw t)
      (λ t. let d = desk_of room in rw t (refused_shows (desk_ask d).reply (image_bytes d.station.bits d.station.apart) image (λ z. h (rw t z)))),
  λ room out h. split (ltb (length room) 228 || ltb (length out) 4)
      (λ t. rw t)
      (λ t. rw t (refused_leaving (leaving (desk_of room)) out (λ z. h (rw t z)))),
  λ room out h. let d = desk_of room in
      split (ltb (length room) 228) (λ t. rw t) (λ t. rw t (refused_telling _ (take 248 (held_lines (listed_cars d)).bytes) out (λ z. h (rw t z)))),
  λ room out h. let d = desk_of room in
      split (ltb (length room) 228 || ltb (length out) 44) (λ t. rw t) (λ t. rw t (refused_shows (desk_ask d).reply (open_bytes (outstanding d)) out (λ z. h (rw t z)))),
  λ compare room out h. let c = compare (desk_of room) in
      split (ltb (length room) 228) (λ t. rw t) (λ t. rw t (refused_telling _ c.lines.bytes out (λ z. h (rw t z)))),
)

-- ---- the numbers that are returned

of_desk : (a : Reply) → OfDesk (replied a % 256)
of_desk (Told a) = inl (a, reply_number_lem (Told a))
of_desk ZeroNumber = inr (omega arith, omega arith)
of_desk KnownNumber = inr (omega arith, omega arith)
of_desk WrongCount = inr (omega arith, omega arith)

where_number : (w : Result Whereabouts AskError) → let n = where_said w % 256 in (n ≡ 0) ⊎ (n ≡ 16) ⊎ (n ≡ 17)
where_number (Ok (At k)) = inl (omega arith)
where_number (Ok (LastKnown k)) = inl (omega arith)
where_number (Ok (Moving k j)) = inl (omega arith)
where_number (Ok NotHere) = inl refl
where_number (Err AskError.Unfit) = inr (inl refl)

leaving_number : (x : Result (Option ℕ) AskError) (out : List ℕ) → let n = (leaving_entry x out).says % 256 in (n ≡ 0) ⊎ (n ≡ 16) ⊎ (n ≡ 17)
unfolding writes
leaving_number (Ok (Some c)) out = inl refl
leaving_number (Ok None) out = inl refl
leaving_number (Err AskError.Unfit) out = inr (inl refl)

-- of lines: a count is told as taken
count_number : (a : Reply) (n : ℕ) → OfDesk (count_told a n % 256)
unfolding count_told
count_number a n = split (eqb (reply_number a) 0) (λ t. rw t (inl (Taken, zero_byte n))) (λ t. rw t (of_desk a))
  where
    zero_byte : (n : ℕ) → 256 * n % 256 ≡ 0
    zero_byte n = omega arith

lines_number : (a : Reply) (n : ℕ) (bytes out : List ℕ) → OfDesk ((telling (count_told a n) bytes out).says % 256)
unfolding telling
lines_number a n bytes out = split (ltb (length out) (length bytes)) (λ t. rw t (of_desk (Told NoRoom))) (λ t. rw t (count_number a n))

pub numbers_returned : DeskNumbersReturned
unfolding desk_entry desk_asking finding parting listing open_shown comparing shows
numbers_returned = (
  λ call room. split (ltb (length room) 228) (λ t. rw t (of_desk (Told NoRoom))) (λ t. rw t (of_desk (call (desk_of room)).reply)),
  λ room image. split (ltb (length room) 228 || ltb (length image) 16)
      (λ t. rw t (of_desk (Told NoRoom)))
      (λ t. rw t (of_desk (desk_ask (desk_of room)).reply)),
  λ room c. split (ltb (length room) 228) (λ t. rw t (inr (inr refl))) (λ t. rw t (where_number (whereabouts (desk_of room) c))),
  λ room out. split (ltb (length room) 228 || ltb (length out) 4)
      (λ t. rw t (inr (inr refl)))
      (λ t. rw t (leaving_number (leaving (desk_of room)) out)),
  λ room out. let d = desk_of room in
      let all = held_lines (listed_cars d) in
      split (ltb (length room) 228) (λ t. rw t (of_desk (Told NoRoom))) (λ t. rw t (lines_number (desk_ask d).reply all.count (take 248 all.bytes) out)),
  λ room out. split (ltb (length room) 228 || ltb (length out) 44)
      (λ t. rw t (of_desk (Told NoRoom)))
      (λ t. rw t (of_desk (desk_ask (desk_of room)).reply)),
  λ compare room out. let c = compare (desk_of room) in
      split (ltb (length room) 228) (λ t. rw t (of_desk (Told NoRoom))) (λ t. rw t (lines_number c.reply c.lines.count c.lines.bytes out)),
)
