-- What is lent, a desk laid out in bytes, and what an entry leaves, case by case: one pair of laws serves every call. Assumes nothing.
use mathlib.Core.Bool.{false}
use mathlib.Core.Path.{subst, ◌≡◌, refl, sym, ap, ap₂, ◌∙◌}
use mathlib.Core.List.{List, [], ◌∷◌, ◌++◌, map, append-nil}
use Prim.Native.Nat.{ℕ, ◌+◌, ◌*◌, ◌-◌, ◌/◌, ◌%◌, ◌^◌, ◌≤◌, ◌<◌}
use native.Mathlib.Nat.{mul-le-mul_right}
use native.Mathlib.Omega.{arith}
use borrow.Author.Tests.{lt-ltb, le-ltb, ltb-false, eq-eqb, ne_eqb}
use lib.Dec.{eqb, ltb}
use lib.ListN.{length, take, drop, replicate, length-append, length-replicate}
use lib.Seq.{take-length}
use Rattle.bits.specs.Places.{join}
use Rattle.bits.proofs.Cases.{split}
use Rattle.answers.specs.declared.Answer.TheVariants.{Taken, TooFewBytes, NoRoom, Unfit}
use Rattle.answers.proofs.Promises.{number_byte}
use Rattle.station.specs.declared.Station.{Station}
use Rattle.wire.specs.Kinds.{set_of}
use Rattle.wire.proofs.Parts.{zeros_past, from_on}
use Rattle.codec.specs.Fours.{fours_in, fours_bytes}
use Rattle.rooms.specs.Rooms.{station_bytes, lent_station, image_bytes, returned, LeavesRoom, writes, telling}
use Rattle.desk.specs.declared.Desk.{Desk}
use Rattle.desk.specs.declared.DeskOutcome.{DeskOutcome}
use Rattle.codec.specs.Bytes.{little_endian}
use Rattle.desk.specs.declared.Reply.{Reply}
use Rattle.desk.specs.declared.Reply.TheVariants.{Told, ZeroNumber, KnownNumber, WrongCount}
use Rattle.desk.specs.declared.Whereabouts.{Whereabouts}
use Rattle.std.specs.declared.option.Option.{Option}
use Rattle.std.specs.declared.result.Result.{Result}
use Rattle.std.specs.declared.option.Option.TheVariants.{Some, None}
use Rattle.std.specs.declared.result.Result.TheVariants.{Ok, Err}
use Rattle.std.specs.Option.{unwrap_or}
use Rattle.desk.specs.declared.AskError.{AskError}
use Rattle.desk.specs.declared.Lines.{Lines}
use Rattle.desk.specs.declared.OpenSet.{OpenSet}
use Rattle.desk.specs.declared.Comparison.{Comparison}
use Rattle.desk.specs.Desk.{reply_number}
use Rattle.desk.specs.Calls.{desk_refused, desk_request, desk_take_image, desk_ask}
use Rattle.desk.specs.Questions.{whereabouts, leaving}
use Rattle.desk.specs.Lines.{line_bytes, held_lines, listed_cars, outstanding, compared}
use Rattle.desk.proofs.Laying.{bytes_length}
use Rattle.desk_c.specs.Entries.{desk_bytes, desk_of, replied, shows, desk_entry, lent_bytes, desk_request_of, desk_image_of, desk_asking, where_said, finding, leaving_entry, parting, count_told, listing, open_bytes, open_shown, comparison_of, comparing}

-- ---- what is lent

module _ (at_most each n : ℕ) where
  pub none_lent : at_most < n → 0 ≡ lent_bytes at_most each n
  none_lent h = rw (lt-ltb _ _ h)

  pub each_lent : n ≤ at_most → each * n ≡ lent_bytes at_most each n
  each_lent h = rw (le-ltb _ _ h)

-- a few bytes for each of a byte's number of things are no number that a word can't hold
pub lent_small : (each n : ℕ) → each ≤ 8 → n < 256 → each * n < 2 ^ 64
lent_small each n h l = let m = mul-le-mul_right n h in omega arith

-- never more than 31 numbers
pub few_lent : (n : ℕ) {size : ℕ} → size ≡ lent_bytes 31 4 n → size ≤ 124
few_lent n {size} e = split (ltb 31 n)
    (λ t. let z : size ≡ 0 = e ∙ rw t in omega arith)
    (λ t. let h = ltb-false 31 n t in let z : size ≡ 4 * n = e ∙ rw t in omega arith)

-- an array of zeros into whose first places a run was copied
pub zero_filled : (s last : List ℕ) → last ≡ take (length s) s ++ drop (length s) (replicate 124 0) → last ≡ s ++ replicate (124 - length s) 0
zero_filled s last e = e ∙ rw (take-length s, zeros_past (length s) 124)

-- a set that is too short, or long enough
module _ (n : ℕ) (set : List ℕ) (d : Desk) {size : ℕ} {o : DeskOutcome} (e : size ≡ lent_bytes 8 5 n) where
  pub few_instructions : length set < size → o ≡ desk_refused d (Told TooFewBytes) → o ≡ desk_request_of n set d
  unfolding desk_request_of
  few_instructions h f = f ∙ rw (← e, lt-ltb _ _ h)

  pub all_instructions : {five : List ℕ} → size ≤ length set → five ≡ set_of (take size set) → o ≡ desk_request d n five → o ≡ desk_request_of n set d
  unfolding desk_request_of
  all_instructions h g f = f ∙ rw (← e, le-ltb _ _ h, g)

-- so of an image's numbers
module _ (r apart n : ℕ) (run : List ℕ) (d : Desk) {size : ℕ} {o : DeskOutcome} (e : size ≡ lent_bytes 31 4 n) where
  pub few_numbers : length run < size → o ≡ desk_refused d (Told TooFewBytes) → o ≡ desk_image_of r apart n run d
  unfolding desk_image_of
  few_numbers h f = f ∙ rw (← e, lt-ltb _ _ h)

  pub all_numbers : {b numbers : List ℕ} → size ≤ length run → b ≡ take size run ++ replicate (124 - length (take size run)) 0
      → numbers ≡ fours_in 31 b → o ≡ desk_take_image d (record { bits = r; apart = apart }) n numbers → o ≡ desk_image_of r apart n run d
  unfolding desk_image_of
  all_numbers h g k f = f ∙ rw (← e, le-ltb _ _ h, k, g)

-- ---- a desk in bytes

-- a room's station, and the numbers behind it
pub desk_loaded : (m : List ℕ) {s : Station} {numbers : List ℕ} → 228 ≤ length m → s ≡ lent_station m
    → numbers ≡ fours_in 42 (take (length m - 60) (drop 60 m)) → ◌≡◌ {A = Desk} (record { station = s; numbers = numbers }) (desk_of m)
unfolding desk_of lent_station
desk_loaded m h e f =
    ap₂ (λ (s : Station) (a : List ℕ). record { station = s; numbers = a }) (e ∙ rw (le-ltb (length m) 60 (omega arith)))
    (f ∙ ap (fours_in 42) (from_on m 60))

-- places of zeros, into which the numbers and the station's bytes were put
pub desk_laid : (d : Desk) (s head last : List ℕ) → length s ≡ 60 → s ≡ station_bytes d.station
    → head ≡ take (length s) s ++ drop (length s) (replicate 60 0) → last ≡ fours_bytes 42 d.numbers ++ drop 168 (replicate 168 0)
    → head ++ (last ++ []) ≡ desk_bytes d
unfolding desk_bytes
desk_laid d s head last l e h f =
    let all : take (length s) s ++ drop (length s) (replicate 60 0) ≡ s ++ [] =
    ap₂ (λ (a b : List ℕ). a ++ b) (take-length s) (ap (λ (k : ℕ). drop k (replicate 60 0)) l) in
    ap₂ (λ (a b : List ℕ). a ++ b) (h ∙ all ∙ append-nil s ∙ e) (append-nil last ∙ f ∙ append-nil (fours_bytes 42 d.numbers))

-- ---- what a call leaves

-- the number of a reply is a byte, and what is said ends with it
pub reply_byte : (a : Reply) → reply_number a < 256
reply_byte (Told a) = number_byte a
reply_byte ZeroNumber = omega arith
reply_byte KnownNumber = omega arith
reply_byte WrongCount = omega arith

pub reply_number_lem : (a : Reply) → replied a % 256 ≡ reply_number a
reply_number_lem a = let h = reply_byte a in omega arith

-- a reply that is told is shown, in the bytes that stand for it
pub as_shows : (a : Reply) (bytes room : List ℕ) {b : List ℕ} {n r : ℕ} {last : List ℕ} → b ≡ bytes → length b ≤ length room → n ≡ replied a
    → LeavesRoom (telling n b room) r last → LeavesRoom (shows a bytes room) r last
unfolding telling shows
as_shows a bytes room {b} d l e w =
    let fits : ltb (length room) (length b) ≡ false = le-ltb _ _ l in
    let zero : eqb (replied a % 256) 0 ≡ eqb (reply_number a) 0 = ap (λ (k : ℕ). eqb k 0) (reply_number_lem a) in
    let t = rw (e, fits, zero) at w in rw (← d) t

-- a call whose room is too short
pub short : (call : Desk → DeskOutcome) (room : List ℕ) {r : ℕ} → length room < 228 → r ≡ returned NoRoom → LeavesRoom (desk_entry call room) r room
unfolding desk_entry
short call room h e = rw (lt-ltb _ _ h) (e, refl)

-- any other leaves what its outcome says
pub entered : (call : Desk → DeskOutcome) (room : List ℕ) {d : Desk} {o : DeskOutcome} {r : ℕ} {last : List ℕ} → 228 ≤ length room
    → d ≡ desk_of room → o ≡ call d → LeavesRoom (shows o.reply (desk_bytes o.desk) room) r last → LeavesRoom (desk_entry call room) r last
unfolding desk_entry
entered call room h e f w = rw (le-ltb _ _ h, ← e, ← f) w

-- ---- questions

-- the record is asked for
module _ (room image : List ℕ) {r : ℕ} where
  pub ask_short : length room < 228 → r ≡ returned NoRoom → LeavesRoom (desk_asking room image) r image
  unfolding desk_asking
  ask_short h e = rw (lt-ltb _ _ h) (e, refl)

  pub image_short : 228 ≤ length room → length image < 16 → r ≡ returned NoRoom → LeavesRoom (desk_asking room image) r image
  unfolding desk_asking
  image_short h l e = rw (le-ltb _ _ h, lt-ltb _ _ l) (e, refl)

  pub asked : {d : Desk} {o : DeskOutcome} {b last : List ℕ} {n : ℕ} → 228 ≤ length room → 16 ≤ length image → d ≡ desk_of room → o ≡ desk_ask d
      → b ≡ image_bytes d.station.bits d.station.apart → n ≡ replied o.reply → LeavesRoom (telling n b image) r last → LeavesRoom (desk_asking room image) r last
  unfolding desk_asking
  asked {d} {o} {b} h l e f g q w =
      let size : length b ≡ 16 = ap length g in
      rw (le-ltb _ _ h, le-ltb _ _ l, ← e, ← f) (as_shows o.reply (image_bytes d.station.bits d.station.apart) image g (omega (arith, size, l)) q w)

-- where a card's car is
module _ (room : List ℕ) (c : ℕ) {r : ℕ} where
  pub where_short : length room < 228 → r ≡ returned NoRoom → r ≡ finding room c
  unfolding finding
  where_short h e = e ∙ rw (lt-ltb _ _ h)

  pub where_said_lem : {d : Desk} {w : Result Whereabouts AskError} → 228 ≤ length room → d ≡ desk_of room → w ≡ whereabouts d c → r ≡ where_said w → r ≡ finding room c
  unfolding finding
  where_said_lem h e f g = g ∙ rw (le-ltb _ _ h, ← e, ← f)

-- which card is leaving
module _ (room out : List ℕ) {r : ℕ} where
  pub leaving_short : length room < 228 → r ≡ returned NoRoom → LeavesRoom (parting room out) r out
  unfolding parting
  leaving_short h e = rw (lt-ltb _ _ h) (e, refl)

  pub out_short : 228 ≤ length room → length out < 4 → r ≡ returned NoRoom → LeavesRoom (parting room out) r out
  unfolding parting
  out_short h l e = rw (le-ltb _ _ h, lt-ltb _ _ l) (e, refl)

  module _ (h : 228 ≤ length room) (l : 4 ≤ length out) {d : Desk} (e : d ≡ desk_of room) {x : Result (Option ℕ) AskError} (f : x ≡ leaving d) where
    pub parted : (y : Result (Option ℕ) AskError) {last : List ℕ} → x ≡ y → LeavesRoom (leaving_entry y out) r last → LeavesRoom (parting room out) r last
    unfolding parting
    parted y g w = rw (le-ltb _ _ h, le-ltb _ _ l, ← e, sym f ∙ g) w

    -- the number that leaves, or 0
    pub card_parted : {o : Option ℕ} {last : List ℕ} {n : ℕ} → x ≡ Ok o → n ≡ unwrap_or o 0
        → LeavesRoom (writes Taken (little_endian 4 n) out) r last → LeavesRoom (parting room out) r last
    card_parted {o = Some c} {last = last} g q w = parted (Ok (Some c)) g (subst (λ (m : ℕ). LeavesRoom (writes Taken (little_endian 4 m) out) r last) q w)
    card_parted {o = None} {last = last} g q w = parted (Ok None) g (subst (λ (m : ℕ). LeavesRoom (writes Taken (little_endian 4 m) out) r last) q w)

    pub unfit_parted : (a : AskError) → x ≡ Err a → r ≡ returned Unfit → LeavesRoom (parting room out) r out
    unfolding writes
    unfit_parted AskError.Unfit g k = parted (Err AskError.Unfit) g (k, refl)

-- ---- lines

-- a reply with a count, refused or taken
module _ (a : Reply) (n : ℕ) where
  pub refused_count : {r : ℕ} → (reply_number a ≡ 0 → ⊥) → r ≡ replied a → r ≡ count_told a n
  unfolding count_told
  refused_count h e = e ∙ rw (ne_eqb _ _ h)

  pub taken_count : reply_number a ≡ 0 → 256 * n ≡ count_told a n
  unfolding count_told
  taken_count h = rw (eq-eqb _ _ h)

-- lines have at least as many bytes as all cars are told in
pub lines_long : (d : Desk) (ls : Lines) → ls ≡ held_lines (listed_cars d) → 248 ≤ length ls.bytes
unfolding held_lines
lines_long d ls e =
    let xs = listed_cars d in
    let n = length xs in
    let z : length ls.bytes ≡ 8 * n + 8 * (62 - n) =
    ap (λ (m : Lines). length m.bytes) e
    ∙ length-append (join (map line_bytes xs)) (replicate (8 * (62 - n)) 0)
    ∙ ap₂ (λ (a b : ℕ). a + b) (bytes_length xs) (length-replicate (8 * (62 - n)) 0) in
    omega arith

-- every car
module _ (room out : List ℕ) {r : ℕ} where
  pub list_short : length room < 228 → r ≡ returned NoRoom → LeavesRoom (listing room out) r out
  unfolding listing
  list_short h e = rw (lt-ltb _ _ h) (e, refl)

  pub listed : {d : Desk} {o : DeskOutcome} {ls : Lines} {n : ℕ} {last : List ℕ} → 228 ≤ length room → d ≡ desk_of room → o ≡ desk_ask d
      → ls ≡ held_lines (listed_cars d) → n ≡ count_told o.reply ls.count → LeavesRoom (telling n (take 248 ls.bytes) out) r last → LeavesRoom (listing room out) r last
  unfolding listing
  listed h e f g q w = rw (le-ltb _ _ h, ← e, ← f, ← g, ← q) w

-- what is outstanding
module _ (room out : List ℕ) {r : ℕ} where
  pub open_short : length room < 228 → r ≡ returned NoRoom → LeavesRoom (open_shown room out) r out
  unfolding open_shown
  open_short h e = rw (lt-ltb _ _ h) (e, refl)

  pub open_no_room : 228 ≤ length room → length out < 44 → r ≡ returned NoRoom → LeavesRoom (open_shown room out) r out
  unfolding open_shown
  open_no_room h l e = rw (le-ltb _ _ h, lt-ltb _ _ l) (e, refl)

  pub opened : {d : Desk} {o : DeskOutcome} {s : OpenSet} {b last : List ℕ} {n : ℕ} → 228 ≤ length room → 44 ≤ length out → d ≡ desk_of room → o ≡ desk_ask d
      → s ≡ outstanding d → b ≡ open_bytes s → length b ≡ 44 → n ≡ replied o.reply → LeavesRoom (telling n b out) r last → LeavesRoom (open_shown room out) r last
  unfolding open_shown
  opened {d} {o} {s} h l e f g k size q w = rw (le-ltb _ _ h, le-ltb _ _ l, ← e, ← f, ← g) (as_shows o.reply (open_bytes s) out k (omega arith) q w)

-- the bytes of what is outstanding: the set behind four others
pub open_laid : (o : OpenSet) (last : List ℕ) → o.issue < 2 ^ 16 → last ++ [] ≡ o.set
    → o.issue % 256 ∷ o.issue / 256 ∷ o.count ∷ o.answered ∷ (last ++ []) ≡ open_bytes o
open_laid o last l e =
    let high : o.issue / 256 ≡ o.issue / 256 % 256 = omega arith in
    ap₂ (λ (k : ℕ) (b : List ℕ). o.issue % 256 ∷ k ∷ o.count ∷ o.answered ∷ b) high e

-- an image that is compared, and too few bytes of it
module _ (r apart n : ℕ) (run : List ℕ) (d : Desk) {size : ℕ} {c : Comparison} (e : size ≡ lent_bytes 31 4 n) where
  pub few_compared : length run < size → c ≡ record { reply = Told TooFewBytes; lines = held_lines [] } → c ≡ comparison_of r apart n run d
  unfolding comparison_of
  few_compared h f = f ∙ rw (← e, lt-ltb _ _ h)

  pub all_compared : {b numbers : List ℕ} → size ≤ length run → b ≡ take size run ++ replicate (124 - length (take size run)) 0
      → numbers ≡ fours_in 31 b → c ≡ compared d (record { bits = r; apart = apart }) n numbers → c ≡ comparison_of r apart n run d
  unfolding comparison_of
  all_compared h g k f = f ∙ rw (← e, le-ltb _ _ h, k, g)

-- no line, in zeros
pub no_lines : ◌≡◌ {A = Lines} (record { count = 0; bytes = replicate 496 0 }) (held_lines [])
unfolding held_lines
no_lines = refl

module _ (compare : Desk → Comparison) (room out : List ℕ) {r : ℕ} where
  pub compare_short : length room < 228 → r ≡ returned NoRoom → LeavesRoom (comparing compare room out) r out
  unfolding comparing
  compare_short h e = rw (lt-ltb _ _ h) (e, refl)

  pub was_compared : {d : Desk} {c : Comparison} {n : ℕ} {last : List ℕ} → 228 ≤ length room → d ≡ desk_of room → c ≡ compare d
      → n ≡ count_told c.reply c.lines.count → LeavesRoom (telling n c.lines.bytes out) r last → LeavesRoom (comparing compare room out) r last
  unfolding comparing
  was_compared h e f q w = rw (le-ltb _ _ h, ← e, ← f, ← q) w
