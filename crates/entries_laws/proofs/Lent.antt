-- Every entry that takes a lent station is the call that it stands for: what its room holds after it, and what it returns. And what is
-- promised of whatever entries follow on one room. Assumes nothing.
use mathlib.Core.Path.{◌≡◌, refl, sym, ap, subst, ◌∙◌}
use mathlib.Core.Bool.{Bool, true, false, ◌&&◌}
use mathlib.Core.List.{List, [], ◌∷◌, ◌++◌}
use Prim.Native.Nat.{ℕ, ◌*◌, ◌%◌, ◌≤◌}
use native.Mathlib.Omega.{arith}
use borrow.Author.Tests.{le-leb, lt-ltb, le-ltb, leb-true, leb-false, ltb-false, eqb-false, eq-eqb}
use lib.Dec.{eqb, leb, ltb}
use lib.ListN.{length, take, drop, length-append, length-drop}
use lib.Seq.{length-take-le}
use Rattle.bits.proofs.Cases.{split, clash}
use Rattle.codec.specs.Bytes.{Bytes}
use Rattle.rules.specs.Codes.{most_in_set}
use Rattle.answers.specs.declared.Answer.TheVariants.{NoRoom, TooFewBytes}
use Rattle.answers.specs.Answers.{number_of}
use Rattle.answers.proofs.Promises.{number_byte}
use Rattle.station.specs.declared.Station.{Station}
use Rattle.station.specs.declared.Outcome.{Outcome}
use Rattle.station.specs.Station.{start_of, fit}
use Rattle.station.specs.Calls as station
use Rattle.station_laws.specs.Runs as run
use Rattle.station_laws.specs.Runs.{Call, call, answer_number, station_after, calls, Begins, at_start, by_image, Reached}
use Rattle.station_laws.proofs.EachCall.{untouched}
use Rattle.wire.specs.declared.What.{What}
use Rattle.wire.specs.declared.What.TheVariants.{Request, Event, Result, Image, Ask, Held}
use Rattle.service.specs.declared.Reply.{Reply}
use Rattle.service.specs.Service.{respond, answer_bytes}
use Rattle.service.specs.Statements.{Answers}
use Rattle.service.proofs.Readings.{ways}
use Rattle.service.proofs.Ranges.{always_answered, refused_keeps}
use Rattle.rooms.specs.Rooms.{station_bytes, station_of, returned, Entry, writes, entry, request_of}
use Rattle.station_c.specs.Entries.{asking, returned_of, exchange}
use Rattle.rooms.specs.Promises.{StationTyped}
use Rattle.rooms.proofs.Promises.{station_fits, station_reads_back, returned_reads_back}
use Rattle.entries_laws.specs.Calls.{Heard, makes, refuses, heard, reply, calls_in}
use Rattle.entries_laws.specs.Uses.{Use, start, request, event, result, image, ask, message, entry_used, uses, heard_request, meant, AsPassed, AllPassed}
use Rattle.entries_laws.specs.Uses.{roomy, call_by, NoStarts, RoomBegun, started, imaged}
use Rattle.entries_laws.specs.Statements.{EntryIsCall, AskWrites, MessageWrites, LentSound, LentNever}
use Rattle.entries_laws.proofs.Messages.{message_is_call, below, AsMade, Fine, heard_fine}
use Rattle.entries_laws.proofs.Reaching.{reached_reply, start_reached, reached_fit, reached_sound, returned_reply, never_so, typed_call, typed_reply}

-- ---- what an entry stands for

asked_fine : (n : ℕ) (set : List ℕ) → Fine (heard_request n set)
asked_fine n set =
    ways Fine (leb n most_in_set && ltb (length set) (5 * n)) (λ _. omega arith)
    (λ t h.
    let few : ltb (length set) (5 * n) ≡ false = rw (le-leb n most_in_set h) at t in
    let l = ltb-false (length set) (5 * n) few in
    let k = length-take-le (5 * n) set l in
    omega arith)

-- what holds of the start and of every reply to what is heard holds of it
by_meaning : (P : Reply → Type 0) (s : Station) → P (meant s start) → ((h : Heard) → Fine h → P (reply s h)) → (u : Use) → AsPassed u → P (meant s u)
by_meaning P s b f start p = b
by_meaning P s b f (request n set) p = f (heard_request n set) (asked_fine n set)
by_meaning P s b f (event e) p = f (makes (run.event e)) tt
by_meaning P s b f (result k i ending) p = f (makes (run.result_call k i ending)) tt
by_meaning P s b f (image r apart) p = f (makes (run.image_call r apart)) p
by_meaning P s b f (ask out) p = f (makes run.ask) tt
by_meaning P s b f (message m out) p = f (heard m) (heard_fine m p)

start_typed : StationTyped start_of
start_typed = record { image = omega arith; places = refl; issue = omega arith; apart = omega arith }

-- a room of bytes holds a station as code holds it
room_typed : (room : List ℕ) → Bytes room → 60 ≤ length room → StationTyped (station_of room)
unfolding station_of
room_typed room b h = record {
  image = below 8 0 room b;
  places = length-take-le 40 (drop 10 room) (rw (length-drop 10 room) (omega arith));
  issue = below 2 50 room b;
  apart = below 8 52 room b;
}

meant_typed : (s : Station) → StationTyped s → (u : Use) → AsPassed u → StationTyped (meant s u).station
meant_typed s T = by_meaning (λ (x : Reply). StationTyped x.station) s start_typed (typed_reply s T)

-- ---- what it leaves and returns

pub record Done (e : Entry) (x : Reply) : Type 0 where
  pub long : 60 ≤ length e.leaves
  pub holds : station_of e.leaves ≡ x.station
  pub returns : e.says ≡ returned_of x.answer

-- a station written over the first bytes of a room
written_long : (s : Station) (past : List ℕ) → StationTyped s → 60 ≤ length (station_bytes s ++ past)
written_long s past T = let l = station_fits s T in rw (length-append (station_bytes s) past) (omega arith)

-- a call's entry
entered : (c : Station → Outcome) (room : List ℕ) (x : Reply) → 60 ≤ length room → StationTyped x.station → (c (station_of room)).station ≡ x.station
    → returned (c (station_of room)).answer ≡ returned_of x.answer → ((number_of (c (station_of room)).answer ≡ 0 → ⊥) → x.station ≡ station_of room)
    → Done (entry c room) x
unfolding entry writes
entered c room x h T e f k =
    let o = c (station_of room) in
    let past = drop (length (station_bytes o.station)) room in
    let U : StationTyped o.station = subst StationTyped (sym e) T in
    split (eqb (number_of o.answer) 0)
    (λ t. record {
      long = rw (le-ltb (length room) 60 h, t) (written_long o.station past U);
      holds = rw (le-ltb (length room) 60 h, t) (station_reads_back o.station past U ∙ e);
      returns = rw (le-ltb (length room) 60 h) f;
    })
    (λ t. record {
      long = rw (le-ltb (length room) 60 h, t) h;
      holds = rw (le-ltb (length room) 60 h, t) (sym (k (eqb-false _ 0 t)));
      returns = rw (le-ltb (length room) 60 h) f;
    })

by_call : (c : Call) (room : List ℕ) → 60 ≤ length room → StationTyped (station_after (station_of room) c) → Done (entry (λ s. call s c) room) (reply (station_of room) (makes c))
by_call c room h T =
    let s = station_of room in
    entered (λ s. call s c) room (reply s (makes c)) h T refl (returned_reply s c) (untouched s c)

by_request : (n : ℕ) (set room : List ℕ) → 60 ≤ length room → StationTyped (reply (station_of room) (heard_request n set)).station
    → Done (entry (request_of n set) room) (reply (station_of room) (heard_request n set))
unfolding request_of
by_request n set room h T = let (e, f, k) = as_call in entered (request_of n set) room (reply s (heard_request n set)) h T e f k
  where
    s : Station
    s = station_of room

    as_call : ((request_of n set s).station ≡ (reply s (heard_request n set)).station)
        × (returned (request_of n set s).answer ≡ returned_of (reply s (heard_request n set)).answer)
        × ((number_of (request_of n set s).answer ≡ 0 → ⊥) → (reply s (heard_request n set)).station ≡ s)
    as_call =
        let c = run.request n (take (5 * n) set) in
        split (leb n most_in_set && ltb (length set) (5 * n)) (λ t. rw t (refl, refl, λ _. refl)) (λ t. rw t (refl, returned_reply s c, untouched s c))

-- an ask
by_ask : (room out : List ℕ) → 60 ≤ length room → ltb (length out) 16 ≡ false → Done (entry_used room (ask out)) (reply (station_of room) (makes run.ask))
unfolding asking writes station.ask
by_ask room out h l =
    let s = station_of room in
    record {
      long = h;
      holds = split (fit s) (λ t. rw t) (λ t. rw t);
      returns = rw (le-ltb (length room) 60 h, l) (returned_reply s run.ask);
    }

-- a message that is refused leaves the station
kept : (s : Station) (bytes : List ℕ) → (returned_of (respond s bytes).answer % 256 ≡ 0 → ⊥) → (respond s bytes).station ≡ s
kept s bytes n = go (respond s bytes).answer refl (always_answered s bytes)
  where
    go : (w : What) → (respond s bytes).answer ≡ w → Answers w → (respond s bytes).station ≡ s
    go (What.Answer number place issue) e a =
        let (b, f) = a.0 in
        let l = number_byte b in
        refused_keeps s bytes number place issue e (λ z. n (ap (λ (w : What). returned_of w % 256) e ∙ omega arith))
    go (Held r apart) e a = absurd (n (ap (λ (w : What). returned_of w % 256) e))
    go Request e a = absurd a
    go (Event way) e a = absurd a
    go (Result issue number ending) e a = absurd a
    go (Image r apart) e a = absurd a
    go Ask e a = absurd a

by_message : (room m out : List ℕ) → 60 ≤ length room → ltb (length out) (length (answer_bytes (respond (station_of room) m).answer)) ≡ false
    → StationTyped (reply (station_of room) (heard m)).station → Done (entry_used room (message m out)) (reply (station_of room) (heard m))
unfolding exchange
by_message room m out h l T =
    let s = station_of room in
    let o = respond s m in
    let same = message_is_call s m in
    let e = ap (λ (x : Reply). x.station) same in
    let f = ap (λ (x : Reply). returned_of x.answer) same in
    let U : StationTyped o.station = subst StationTyped (sym e) T in
    split (eqb (returned_of o.answer % 256) 0)
    (λ t. record {
      long = rw (le-ltb (length room) 60 h, l, t) (written_long o.station (drop 60 room) U);
      holds = rw (le-ltb (length room) 60 h, l, t) (station_reads_back o.station (drop 60 room) U ∙ e);
      returns = rw (le-ltb (length room) 60 h, l) f;
    })
    (λ t. record {
      long = rw (le-ltb (length room) 60 h, l, t) h;
      holds = rw (le-ltb (length room) 60 h, l, t) (sym (kept s m (eqb-false _ 0 t)) ∙ e);
      returns = rw (le-ltb (length room) 60 h, l) f;
    })

-- the room for an image or a reply is too short
abbrev pub short : List ℕ → Use → Bool
short room start = false
short room (request n set) = false
short room (event e) = false
short room (result k i ending) = false
short room (image r apart) = false
short room (ask out) = ltb (length out) 16
short room (message m out) = ltb (length out) (length (answer_bytes (respond (station_of room) m).answer))

pub done : (room : List ℕ) → 60 ≤ length room → StationTyped (station_of room) → (u : Use) → AsPassed u → short room u ≡ false → Done (entry_used room u) (meant (station_of room) u)
done room h T start p l = entered (λ s. station.taken start_of) room (meant (station_of room) start) h start_typed refl refl (λ n. absurd (n refl))
done room h T (request n set) p l = by_request n set room h (meant_typed (station_of room) T (request n set) p)
done room h T (event e) p l = by_call (run.event e) room h (meant_typed (station_of room) T (event e) p)
done room h T (result k i d) p l = by_call (run.result_call k i d) room h (meant_typed (station_of room) T (result k i d) p)
done room h T (image r apart) p l = by_call (run.image_call r apart) room h (meant_typed (station_of room) T (image r apart) p)
done room h T (ask out) p l = by_ask room out h l
done room h T (message m out) p l = by_message room m out h l (meant_typed (station_of room) T (message m out) p)

-- then nothing is done
pub skipped : (room : List ℕ) → 60 ≤ length room → (u : Use) → short room u ≡ true → ((entry_used room u).leaves ≡ room) × ((entry_used room u).says ≡ returned NoRoom)
unfolding asking exchange
skipped room h start l = clash l refl
skipped room h (request n set) l = clash l refl
skipped room h (event e) l = clash l refl
skipped room h (result k i d) l = clash l refl
skipped room h (image r apart) l = clash l refl
skipped room h (ask out) l = (refl, rw (le-ltb (length room) 60 h, l))
skipped room h (message m out) l = rw (le-ltb (length room) 60 h, l) (refl, refl)

-- the two tests of that room
at_least : (a b : ℕ) → leb b a ≡ true → ltb a b ≡ false
at_least a b e = le-ltb a b (leb-true b a e)

fewer : (a b : ℕ) → leb b a ≡ false → ltb a b ≡ true
fewer a b e = lt-ltb a b (leb-false b a e)

pub long_enough : (room : List ℕ) (u : Use) → roomy room u ≡ true → short room u ≡ false
long_enough room start r = refl
long_enough room (request n set) r = refl
long_enough room (event e) r = refl
long_enough room (result k i d) r = refl
long_enough room (image x apart) r = refl
long_enough room (ask out) r = at_least (length out) 16 r
long_enough room (message m out) r = at_least (length out) (length (answer_bytes (respond (station_of room) m).answer)) r

pub too_short : (room : List ℕ) (u : Use) → roomy room u ≡ false → short room u ≡ true
too_short room start r = clash refl r
too_short room (request n set) r = clash refl r
too_short room (event e) r = clash refl r
too_short room (result k i d) r = clash refl r
too_short room (image x apart) r = clash refl r
too_short room (ask out) r = fewer (length out) 16 r
too_short room (message m out) r = fewer (length out) (length (answer_bytes (respond (station_of room) m).answer)) r

pub entry_is_call : EntryIsCall
entry_is_call room b h u p r = let D = done room h (room_typed room b h) u p (long_enough room u r) in (D.holds, D.returns)

pub ask_writes : AskWrites
unfolding asking writes
ask_writes room out h l z =
    let a = (station.ask (station_of room)).answer in
    let e : (asking room out).says ≡ returned a = rw (le-ltb (length room) 60 h, le-ltb (length out) 16 l) in
    let n : number_of a ≡ 0 = sym (returned_reads_back a).0 ∙ ap (λ (k : ℕ). k % 256) (sym e) ∙ z in
    rw (le-ltb (length room) 60 h, le-ltb (length out) 16 l, eq-eqb (number_of a) 0 n)

pub message_writes : MessageWrites
unfolding exchange
message_writes room m out h l =
    let s = station_of room in
    let w = (respond s m).answer in
    rw (le-ltb (length room) 60 h, at_least (length out) (length (answer_bytes w)) l)
    (ap (λ (x : Reply). answer_bytes x.answer ++ drop (length (answer_bytes x.answer)) out) (message_is_call s m))

-- ---- whatever entries follow

-- a room that holds a station which was reached
pub record Lent (room : List ℕ) : Type 0 where
  pub long : 60 ≤ length room
  pub typed : StationTyped (station_of room)
  pub reached : Reached (station_of room)

held : (room : List ℕ) (x : Reply) {e : Entry} → Done e x → StationTyped x.station → Reached x.station → Lent e.leaves
held room x D T R = record { long = D.long; typed = subst StationTyped (sym D.holds) T; reached = subst Reached (sym D.holds) R }

pub lent_used : (room : List ℕ) → Lent room → (u : Use) → AsPassed u → Lent (entry_used room u).leaves
lent_used room L u p =
    let s = station_of room in
    split (short room u)
    (λ t. subst Lent (sym (skipped room L.long u t).0) L)
    (λ t. held room (meant s u) (done room L.long L.typed u p t) (meant_typed s L.typed u p)
    (by_meaning (λ (x : Reply). Reached x.station) s start_reached (reached_reply s L.reached) u p))

pub lent_uses : (room : List ℕ) → Lent room → (l : List Use) → AllPassed l → Lent (uses room l)
lent_uses room L [] p = L
lent_uses room L (u ∷ l) p = lent_uses (entry_used room u).leaves (lent_used room L u p.0) l p.1

-- ---- the call that an entry makes

-- what an entry makes of what it is given; station_start is given nothing, and no call is made of it
abbrev heard_by : Use → Heard
heard_by start = refuses TooFewBytes
heard_by (request n set) = heard_request n set
heard_by (event e) = makes (run.event e)
heard_by (result k i ending) = makes (run.result_call k i ending)
heard_by (image r apart) = makes (run.image_call r apart)
heard_by (ask out) = makes run.ask
heard_by (message m out) = heard m

call_heard : (u : Use) → call_by u ≡ calls_in (heard_by u ∷ [])
call_heard start = refl
call_heard (request n set) = refl
call_heard (event e) = refl
call_heard (result k i ending) = refl
call_heard (image r apart) = refl
call_heard (ask out) = refl
call_heard (message m out) = refl

meant_heard : (s : Station) (u : Use) → NoStarts (u ∷ []) → meant s u ≡ reply s (heard_by u)
meant_heard s start n = absurd n
meant_heard s (request n set) _ = refl
meant_heard s (event e) n = refl
meant_heard s (result k i ending) n = refl
meant_heard s (image r apart) n = refl
meant_heard s (ask out) n = refl
meant_heard s (message m out) n = refl

-- an entry leaves what its call does
reply_calls : (s : Station) (h : Heard) → (reply s h).station ≡ calls s (calls_in (h ∷ []))
reply_calls s (makes c) = refl
reply_calls s (refuses a) = refl

pub meant_calls : (s : Station) (u : Use) → NoStarts (u ∷ []) → (meant s u).station ≡ calls s (call_by u)
meant_calls s u n = ap (λ (x : Reply). x.station) (meant_heard s u n) ∙ reply_calls s (heard_by u) ∙ ap (calls s) (sym (call_heard u))

heard_by_fine : (u : Use) → AsPassed u → Fine (heard_by u)
heard_by_fine start p = omega arith
heard_by_fine (request n set) p = asked_fine n set
heard_by_fine (event e) p = tt
heard_by_fine (result k i ending) p = tt
heard_by_fine (image r apart) p = p
heard_by_fine (ask out) p = tt
heard_by_fine (message m out) p = heard_fine m p

-- the first of some calls, or an ask
abbrev first : List Call → Call
first [] = run.ask
first (c ∷ l) = c

only_makes : (h : Heard) (c : Call) → calls_in (h ∷ []) ≡ c ∷ [] → h ≡ makes c
only_makes (makes d) c e = ap (λ (l : List Call). makes (first l)) e
only_makes (refuses a) c e = let l = ap (λ (l : List Call). length l) e in absurd (omega arith)

-- an entry that makes a call is no station_start
no_start : (u : Use) (c : Call) → call_by u ≡ c ∷ [] → NoStarts (u ∷ [])
no_start start c e = let l = ap (λ (l : List Call). length l) e in absurd (omega arith)
no_start (request n set) c e = tt
no_start (event x) c e = tt
no_start (result k i ending) c e = tt
no_start (image r apart) c e = tt
no_start (ask out) c e = tt
no_start (message m out) c e = tt

-- one whose call is accepted: the call is as code makes it, it is accepted, and the room holds the station that it leaves
pub record Accepted (room : List ℕ) (u : Use) (c : Call) : Type 0 where
  pub made : AsMade c
  pub accepted : answer_number (station_of room) c ≡ 0
  pub holds : station_of (entry_used room u).leaves ≡ station_after (station_of room) c
  pub long : 60 ≤ length (entry_used room u).leaves

pub accepted_by : (room : List ℕ) → 60 ≤ length room → StationTyped (station_of room) → (u : Use) (c : Call) → AsPassed u → call_by u ≡ c ∷ []
    → (entry_used room u).says % 256 ≡ 0 → Accepted room u c
accepted_by room h T u c p e z = split (short room u) (λ t. let k = (skipped room h u t).1 in absurd (omega arith)) with_room
  where
    s : Station
    s = station_of room

    is : heard_by u ≡ makes c
    is = only_makes (heard_by u) c (sym (call_heard u) ∙ e)

    says : meant s u ≡ reply s (makes c)
    says = meant_heard s u (no_start u c e) ∙ ap (reply s) is

    with_room : short room u ≡ false → Accepted room u c
    with_room t =
        let D = done room h T u p t in
        let a = (call s c).answer in
        let r : (entry_used room u).says ≡ returned a = D.returns ∙ ap (λ (x : Reply). returned_of x.answer) says ∙ sym (returned_reply s c) in
        record {
          made = subst Fine is (heard_by_fine u p);
          accepted = sym (returned_reads_back a).0 ∙ ap (λ (k : ℕ). k % 256) (sym r) ∙ z;
          holds = D.holds ∙ ap (λ (x : Reply). x.station) says;
          long = D.long;
        }

pub begun_start : (before : List ℕ) → 60 ≤ length before → Done (entry_used before start) (meant (station_of before) start)
begun_start before h = entered (λ s. station.taken start_of) before (meant (station_of before) start) h start_typed refl refl (λ n. absurd (n refl))

-- where a lent station begins, calls begin
pub begun_begins : (room : List ℕ) → RoomBegun room → Begins (station_of room)
begun_begins room (started before h) = subst Begins (sym (begun_start before h).holds) at_start
begun_begins room (imaged before u r apart b h p e z) =
    let A = accepted_by before h (room_typed before b h) u (run.image_call r apart) p e z in
    subst Begins (sym A.holds) (by_image (station_of before) r apart A.made A.accepted)

pub begun : (room : List ℕ) → RoomBegun room → Lent room
begun room (started before h) = held before (meant (station_of before) start) (begun_start before h) start_typed start_reached
begun room (imaged before u r apart b h p e z) =
    let s = station_of before in
    let c = run.image_call r apart in
    let T = room_typed before b h in
    let A = accepted_by before h T u c p e z in
    record {
      long = A.long;
      typed = subst StationTyped (sym A.holds) (typed_call s T c A.made);
      reached = record { origin = station_of room; begins = begun_begins room (imaged before u r apart b h p e z); since = []; no_images = tt; here = refl };
    }

pub lent_sound : LentSound
lent_sound room b l p =
    let L = lent_uses room (begun room b) l p in
    (reached_fit _ L.reached, reached_sound _ L.reached)

pub lent_never : LentNever
lent_never room b l p u q =
    let last = uses room l in
    let L = lent_uses room (begun room b) l p in
    let s = station_of last in
    split (short last u)
    (λ t. let e = (skipped last L.long u t).1 in λ z. omega arith)
    (λ t.
    let e = ap (λ (k : ℕ). k % 256) (done last L.long L.typed u q t).returns in
    λ z. by_meaning (λ (x : Reply). returned_of x.answer % 256 ≡ 16 → ⊥) s (λ z. omega arith) (never_so s L.reached) u q (sym e ∙ z))
