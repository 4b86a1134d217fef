-- A message is the call that it makes; and that call is as code makes it, where the numbers are bytes. Assumes nothing.
use mathlib.Core.Path.{◌≡◌, refl, ◌∙◌}
use mathlib.Core.List.{List, ◌++◌}
use Prim.Native.Nat.{ℕ, zero, suc, ◌+◌, ◌*◌, ◌-◌, ◌^◌, ◌≤◌, ◌<◌}
use native.Mathlib.Omega.{arith}
use native.Mathlib.Nat.{pow-suc}
use borrow.Author.Tests.{eqb-true}
use lib.Dec.{eqb, ltb}
use lib.ListN.{get_or, length, take, drop, replicate, length-append, length-drop}
use lib.Seq.{length-take-le}
use Rattle.bits.specs.Search.{least}
use Rattle.bits.proofs.Cases.{split}
use Rattle.codec.specs.Bytes.{from_little_endian, Bytes}
use Rattle.rules.specs.Codes.{most_in_set}
use Rattle.answers.specs.Answers.{number_of}
use Rattle.station.specs.declared.Station.{Station}
use Rattle.station_laws.specs.Runs as run
use Rattle.station_laws.specs.Runs.{Call}
use Rattle.wire.specs.declared.What.{What}
use Rattle.wire.specs.declared.What.TheVariants.{Request, Event, Result, Image, Ask, Held}
use Rattle.wire.specs.Reads.{Received}
use Rattle.wire.specs.declared.Frame.{Frame}
use Rattle.wire.specs.declared.Frame.TheVariants.{Cut, Wrong, Whole}
use Rattle.wire.specs.Kinds.{kind_of, in_range, kinds_asked}
use Rattle.wire.specs.Reads.{frame_of, kind_at, sized, bad_in, read_request, read_whole, read_framed, read_asked}
use Rattle.wire.specs.Writes.{message_bytes, writing_message}
use Rattle.codec.proofs.Numbers.{bytes_take}
use Rattle.wire_laws.proofs.Back.{wrote, reads_back}
use Rattle.wire_laws.proofs.Asked.{asked_alike}
use Rattle.service.specs.Service.{called, reply_of, respond}
use Rattle.service.proofs.Readings.{ways}
use Rattle.entries_laws.specs.Calls.{Heard, makes, refuses, heard_as, heard, reply}
use Rattle.entries_laws.specs.Statements.{MessageIsCall, WrittenIsHeard}

-- ---- it is a call

replied : (w : What) (s : Station) (n : ℕ) (set : List ℕ) → reply_of w (called w s n set) ≡ reply s (heard_as w n set)
replied Request s n set = refl
replied (Event way) s n set = refl
replied (Result issue number ending) s n set = refl
replied (Image r apart) s n set = refl
replied Ask s n set = refl
replied (What.Answer number place issue) s n set = refl
replied (Held r apart) s n set = refl

pub message_is_call : MessageIsCall
unfolding respond heard
message_is_call s bytes =
    let m = (read_asked bytes).message in
    split (eqb (number_of (read_asked bytes).answer) 0) (λ t. rw t (replied m.what s m.count m.set)) (λ t. rw t)

-- ---- every call can be made

kind_written : (w : What) (count : ℕ) (set t : List ℕ) → kind_at (message_bytes (record { what = w; count = count; set = set }) ++ t) ≡ kind_of w
kind_written Request count set t = refl
kind_written (Event way) count set t = refl
kind_written (Result issue number ending) count set t = refl
kind_written (Image r apart) count set t = refl
kind_written Ask count set t = refl
kind_written (What.Answer number place issue) count set t = refl
kind_written (Held r apart) count set t = refl

pub written_is_heard : WrittenIsHeard
unfolding heard
written_is_heard m room n p k e =
    let w = wrote m room n e in
    let past = drop (length (message_bytes m)) room in
    let kind : kind_at (writing_message m room).leaves ≡ kind_of m.what = rw w.all (kind_written m.what m.count m.set past) in
    let r = asked_alike (writing_message m room).leaves (rw kind k) ∙ reads_back m room n p e in
    rw r

-- ---- made as code makes it

-- a number read from bytes
pub below : (n i : ℕ) (s : List ℕ) → Bytes s → from_little_endian n i s < 256 ^ n
below zero i s b = omega arith
below (suc n) i s b = omega (arith, pow-suc 256 n, below n (suc i) s b, b i)

-- a call as code makes it: up to eight instructions have their bytes, an image is a number of 64 bits
abbrev pub AsMade : Call → Type 0
AsMade (run.request n set) = n ≤ most_in_set → 5 * n ≤ length set
AsMade (run.reports r) = Unit {0}
AsMade (run.event e) = Unit {0}
AsMade (run.pictures p) = p.bits < 2 ^ 64
AsMade run.ask = Unit {0}

-- what a message makes: such a call, or a refusal that the reader can give
abbrev pub Fine : Heard → Type 0
Fine (makes c) = AsMade c
Fine (refuses a) = number_of a ≤ 5

-- what the reader says makes such a thing
record Received-fine (r : Received) : Type 0 where
  made : Fine (heard_as r.message.what r.message.count r.message.set)
  low : number_of r.answer ≤ 5

sized_fine : (m : List ℕ) (n : ℕ) (w : What) → Fine (heard_as w 0 (replicate 40 0)) → Received-fine (sized m n w)
sized_fine m n w f =
    ways Received-fine (eqb (length m) n)
    (λ _. ways Received-fine (in_range w) (λ _. record { made = f; low = omega arith }) (λ _. record { made = tt; low = omega arith }))
    (λ _. record { made = tt; low = omega arith })

request_fine : (m : List ℕ) → Received-fine (read_request m)
unfolding read_request
request_fine m =
    let n = get_or m 4 0 in
    let set = drop 5 m in
    ways Received-fine (ltb (length m) 5) (λ _. record { made = tt; low = omega arith })
    (λ _. ways Received-fine (ltb 8 n) (λ _. record { made = tt; low = omega arith })
    (λ _. ways Received-fine (eqb (length m) (5 + 5 * n))
    (λ e. ways Received-fine (ltb (least n (bad_in set)) n) (λ _. record { made = tt; low = omega arith })
    (λ _.
    let l = eqb-true (length m) (5 + 5 * n) e in
    let d : length set ≡ 5 * n = length-drop 5 m ∙ omega arith in
    let k = length-take-le (5 * n) set (omega arith) in
    record { made = λ _. rw (length-append (take (5 * n) set) (replicate (40 - 5 * n) 0), k) (omega arith); low = omega arith }))
    (λ _. record { made = tt; low = omega arith })))

whole_fine : (m : List ℕ) → Bytes m → Received-fine (read_whole kinds_asked m)
unfolding read_whole
whole_fine m b =
    ways Received-fine (eqb (kind_at m) 1) (λ _. request_fine m)
    (λ _. ways Received-fine (eqb (kind_at m) 2) (λ _. sized_fine m 5 (Event (get_or m 4 0)) tt)
    (λ _. ways Received-fine (eqb (kind_at m) 3) (λ _. sized_fine m 8 (Result (from_little_endian 2 4 m) (get_or m 6 0) (get_or m 7 0)) tt)
    (λ _. ways Received-fine (eqb (kind_at m) 4) (λ _. sized_fine m 20 (Image (from_little_endian 8 4 m) (from_little_endian 8 12 m)) (below 8 4 m b))
    (λ _. ways Received-fine (eqb (kind_at m) 5) (λ _. sized_fine m 4 Ask tt) (λ _. record { made = tt; low = omega arith })))))

framed_fine : (f : Frame) (s : List ℕ) → Bytes s → Received-fine (read_framed kinds_asked f s)
framed_fine Cut s b = record { made = tt; low = omega arith }
framed_fine Wrong s b = record { made = tt; low = omega arith }
framed_fine (Whole n) s b = whole_fine (take n s) (bytes_take n s b)

pub heard_fine : (s : List ℕ) → Bytes s → Fine (heard s)
unfolding heard read_asked
heard_fine s b =
    let f = framed_fine (frame_of s) s b in
    ways Fine (eqb (number_of (read_asked s).answer) 0) (λ _. f.made) (λ _. f.low)
