-- The place that an entry returns is one of eight, or none. Assumes nothing.
use mathlib.Core.Path.{◌≡◌, refl}
use mathlib.Core.Logic.{◌⊎◌, inl, inr}
use mathlib.Core.Bool.{◌&&◌, ◌||◌}
use mathlib.Core.List.{List}
use Prim.Native.Nat.{ℕ, ◌+◌, ◌*◌, ◌/◌, ◌≤◌, ◌<◌, ◌%◌}
use native.Mathlib.Omega.{arith}
use lib.Dec.{leb, ltb}
use lib.ListN.{length, take}
use Rattle.bits.proofs.Cases.{split}
use Rattle.rules.specs.Codes.{most_in_set}
use Rattle.answers.specs.declared.Answer.{Answer}
use Rattle.answers.specs.Answers.{place_of}
use Rattle.answers.proofs.Promises.{number_byte}
use Rattle.station.specs.declared.Station.{Station}
use Rattle.station.specs.declared.Outcome.{Outcome}
use Rattle.station.specs.Station.{start_of}
use Rattle.station.specs.Calls as station
use Rattle.station_laws.specs.Runs as run
use Rattle.station_laws.specs.Runs.{Call, fault_index}
use Rattle.station_laws.proofs.Demands.{places_in_range}
use Rattle.wire.specs.declared.What.{What}
use Rattle.wire.specs.declared.What.TheVariants.{Request, Event, Result, Image, Ask, Held}
use Rattle.service.specs.Service.{respond, answer_bytes}
use Rattle.service.specs.Statements.{Answers}
use Rattle.service.proofs.Ranges.{always_answered}
use Rattle.rooms.specs.Rooms.{station_of, returned, writes, entry, request_of}
use Rattle.station_c.specs.Entries.{asking, returned_of, exchange}
use Rattle.rooms.proofs.Promises.{returned_reads_back}
use Rattle.entries_laws.specs.Uses.{start, request, event, result, image, ask, message}
use Rattle.entries_laws.specs.Statements.{EntryPlacesInRange}

-- one of eight, or none
abbrev Placed : ℕ → Type 0
Placed p = (p ≤ 7) ⊎ (p ≡ 255)

-- so it is a byte
byte_placed : (p : ℕ) → Placed p → p < 256
byte_placed p (inl h) = omega arith
byte_placed p (inr e) = omega arith

at_most : (p : ℕ) → (p < most_in_set) ⊎ (p ≡ 255) → Placed p
at_most p (inl h) = inl (omega arith)
at_most p (inr e) = inr e

call_placed : (s : Station) (c : Call) → Placed (fault_index s c)
call_placed s c = at_most (fault_index s c) (places_in_range s c)

returned_placed : (a : Answer) → Placed (place_of a) → Placed (returned a / 256 % 256)
returned_placed a h = rw ((returned_reads_back a).1 (byte_placed (place_of a) h)).0 h

entry_placed : (c : Station → Outcome) (room : List ℕ) → Placed (place_of (c (station_of room)).answer) → Placed ((entry c room).says / 256 % 256)
unfolding entry writes
entry_placed c room h = split (ltb (length room) 60) (λ t. rw t (inr refl)) (λ t. rw t (returned_placed (c (station_of room)).answer h))

request_placed : (n : ℕ) (set : List ℕ) (s : Station) → Placed (place_of (request_of n set s).answer)
unfolding request_of
request_placed n set s =
    split (leb n most_in_set && ltb (length set) (5 * n)) (λ t. rw t (inr refl)) (λ t. rw t (call_placed s (run.request n (take (5 * n) set))))

reply_placed : (w : What) → Answers w → Placed (returned_of w / 256 % 256)
reply_placed (What.Answer number place issue) a =
    let (b, e) = a.0 in
    let h = number_byte b in
    let l = byte_placed place a.1 in
    let p : (number + 256 * place + 65536 * issue) / 256 % 256 ≡ place = omega arith in
    rw p a.1
reply_placed (Held r apart) a = inr refl
reply_placed Request a = absurd a
reply_placed (Event way) a = absurd a
reply_placed (Result issue number ending) a = absurd a
reply_placed (Image r apart) a = absurd a
reply_placed Ask a = absurd a

pub entry_places_in_range : EntryPlacesInRange
unfolding asking writes exchange
entry_places_in_range room start = entry_placed (λ s. station.taken start_of) room (inr refl)
entry_places_in_range room (request n set) = entry_placed (request_of n set) room (request_placed n set (station_of room))
entry_places_in_range room (event e) = entry_placed (λ s. station.event s e) room (call_placed (station_of room) (run.event e))
entry_places_in_range room (result k i d) = entry_placed (λ s. station.result s (record { issue = k; number = i; ending = d })) room (call_placed (station_of room) (run.result_call k i d))
entry_places_in_range room (image r apart) = entry_placed (λ s. station.take_image s (record { bits = r; apart = apart })) room (call_placed (station_of room) (run.image_call r apart))
entry_places_in_range room (ask out) =
    let s = station_of room in
    split (ltb (length room) 60 || ltb (length out) 16) (λ t. rw t (inr refl))
    (λ t. rw t (returned_placed (station.ask s).answer (call_placed s run.ask)))
entry_places_in_range room (message m out) =
    let w = (respond (station_of room) m).answer in
    split (ltb (length room) 60 || ltb (length out) (length (answer_bytes w))) (λ t. rw t (inr refl)) (λ t. rw t (reply_placed w (always_answered (station_of room) m)))
