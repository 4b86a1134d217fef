-- The promises of specs/Promises.antt, and what follows for whatever is written or returned. Assumes nothing.
use mathlib.Core.Path.{◌≡◌, refl, sym, ap, ap₂, ◌∙◌}
use mathlib.Core.List.{List, ◌∷◌, ◌++◌, append_assoc}
use Prim.Native.Nat.{ℕ, ◌%◌, ◌^◌, ◌≤◌, ◌<◌}
use native.Mathlib.Omega.{arith}
use borrow.Author.Tests.{ne_eqb}
use lib.Dec.{ltb}
use lib.ListN.{length, get_or, take, drop, length-append, length-drop}
use lib.Seq.{take_at, take-add, length-take-le, drop_at, drop-cons, drop-drop, get_or-drop}
use Rattle.bits.proofs.Cases.{split}
use Rattle.codec.specs.Bytes.{little_endian, from_little_endian, Bytes}
use Rattle.answers.specs.declared.Answer.{Answer}
use Rattle.answers.specs.declared.Answer.TheVariants.{NoRoom}
use Rattle.answers.specs.Answers.{number_of, OfTable}
use Rattle.answers.proofs.Promises.{number_byte}
use Rattle.station.specs.declared.Station.{Station}
use Rattle.codec.proofs.Numbers.{bytes_take, bytes_drop, read_from, number_back, two_form, image_reads_back, image_one_form}
use Rattle.rooms.specs.Rooms.{station_bytes, station_of, returned, writes}
use Rattle.rooms.specs.Questions.{moved, request_answer, record_in, nexting}
use Rattle.rooms.specs.Promises.{StationTyped, StationFits, StationReadsBack, StationOneForm, ReturnedReadsBack}
use Rattle.rooms.proofs.Bytes.{within}

pub station_fits : StationFits
unfolding station_bytes
station_fits s t = omega (arith, t.places, length-append s.set (little_endian 2 s.next ++ little_endian 8 s.apart))

-- what stands behind the set, the issue of the next one and what is set apart, reads back
module _ (s : Station) (past : List ℕ) (t : StationTyped s) where
  abbrev behind : List ℕ
  behind = little_endian 2 s.next ++ (little_endian 8 s.apart ++ past)

  behind_set : drop 40 (s.set ++ behind) ≡ behind
  behind_set = drop_at s.set behind 40 t.places

  long : 42 ≤ length (s.set ++ behind)
  long = omega (arith, t.places, length-append s.set behind)

  next_back : from_little_endian 2 40 (s.set ++ behind) ≡ s.next
  next_back =
      read_from 40 2 (s.set ++ behind) (omega (arith, long))
      ∙ ap (from_little_endian 2 0) behind_set
      ∙ number_back 2 s.next (little_endian 8 s.apart ++ past) t.issue

  apart_back : from_little_endian 8 42 (s.set ++ behind) ≡ s.apart
  apart_back =
      read_from 42 8 (s.set ++ behind) long
      ∙ ap (from_little_endian 8 0) (sym (drop-drop 2 40 (s.set ++ behind)) ∙ ap (drop 2) behind_set)
      ∙ number_back 8 s.apart past t.apart

pub station_reads_back : StationReadsBack
unfolding station_bytes station_of
station_reads_back s past t =
    rw (
      append_assoc s.set (little_endian 2 s.next ++ little_endian 8 s.apart) past,
      image_reads_back s.bits (s.count ∷ s.answered ∷ (s.set ++ behind s past t)) t.image,
      take_at s.set (behind s past t) 40 t.places,
      next_back s past t,
      apart_back s past t,
    )

-- the ten bytes behind the set say the issue and what is set apart
behind_form : (room : List ℕ) → Bytes room → 60 ≤ length room
    → little_endian 2 (from_little_endian 2 50 room) ++ little_endian 8 (from_little_endian 8 52 room) ≡ take 10 (drop 40 (drop 10 room))
behind_form room b h =
    let ten = take 10 (drop 50 room) in
    let size : length ten ≡ 10 = length-take-le 10 (drop 50 room) (rw length-drop (omega arith)) in
    let next : from_little_endian 2 0 ten ≡ from_little_endian 2 50 room = within 2 0 10 (drop 50 room) (omega arith) ∙ simp get_or-drop in
    let apart : from_little_endian 8 2 ten ≡ from_little_endian 8 52 room = within 8 2 10 (drop 50 room) (omega arith) ∙ simp get_or-drop in
    ap₂ (λ (k r : ℕ). little_endian 2 k ++ little_endian 8 r) (sym next) (sym apart)
    ∙ two_form 2 8 ten (bytes_take 10 (drop 50 room) (bytes_drop 50 room b)) size
    ∙ ap (take 10) (sym (drop-drop 40 10 room))

pub station_one_form : StationOneForm
unfolding station_bytes station_of
station_one_form room b h =
    let two : drop 8 room ≡ get_or room 8 0 ∷ get_or room 9 0 ∷ drop 10 room = drop-cons room 8 0 (omega arith) ∙ ap (◌∷◌ (get_or room 8 0)) (drop-cons room 9 0 (omega arith)) in
    let set = take 40 (drop 10 room) in
    let last = little_endian 2 (from_little_endian 2 50 room) ++ little_endian 8 (from_little_endian 8 52 room) in
    let fifty : take 50 (drop 10 room) ≡ set ++ last = take-add 40 10 (drop 10 room) ∙ ap (λ (l : List ℕ). set ++ l) (sym (behind_form room b h)) in
    ap (λ (l : List ℕ). l ++ (get_or room 8 0 ∷ get_or room 9 0 ∷ (set ++ last))) (sym (image_one_form room b (omega arith)))
    ∙ sym (take-add 8 52 room ∙ ap (λ (l : List ℕ). take 8 room ++ take 52 l) two ∙ ap (λ (l : List ℕ). take 8 room ++ (get_or room 8 0 ∷ get_or room 9 0 ∷ l)) fifty)

-- a number of eight bytes reads back from the room that it was written to
pub eight_back : (x : ℕ) (past : List ℕ) → x < 2 ^ 64 → from_little_endian 8 0 (little_endian 8 x ++ past) ≡ x
eight_back = image_reads_back

pub number_reads_back : (a : Answer) → returned a % 256 ≡ number_of a
number_reads_back a = let h = number_byte a in omega arith

pub returned_reads_back : ReturnedReadsBack
returned_reads_back a = let h = number_byte a in (number_reads_back a, λ l. (omega arith, omega arith))

-- ---- refused, nothing is written; and every number is of the table

pub refused_writes : (a : Answer) (bytes room : List ℕ) → (returned a % 256 ≡ 0 → ⊥) → (writes a bytes room).leaves ≡ room
unfolding writes
refused_writes a bytes room h = rw (ne_eqb (number_of a) 0 (λ z. h (number_reads_back a ∙ z)))

pub of_table : (a : Answer) → OfTable (returned a % 256)
of_table a = (a, number_reads_back a)

-- of a question for the next record
pub next_untouched : (r : ℕ) (five room : List ℕ) → ((nexting r five room).says % 256 ≡ 0 → ⊥) → (nexting r five room).leaves ≡ room
unfolding nexting writes
next_untouched r five room h = split (ltb (length room) 8)
    (λ t. rw t)
    (λ t. rw t (refused_writes (request_answer r five) (little_endian 8 (record_in (moved r five))) room (λ z. h (rw t z))))

pub next_of_table : (r : ℕ) (five room : List ℕ) → OfTable ((nexting r five room).says % 256)
unfolding nexting writes
next_of_table r five room = split (ltb (length room) 8) (λ t. rw t (of_table NoRoom)) (λ t. rw t (of_table (request_answer r five)))
