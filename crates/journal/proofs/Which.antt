-- Which bytes are damaged, and that what a run takes is whole messages, so that a journal stays one. Assumes nothing.
use Rattle.std.proofs.Common.{◌≡◌, ℕ, ◌+◌, ◌≤◌, Bool, true, false, cond, ◌⊎◌, List, [], ◌∷◌, ◌++◌, length, take, sym, refl, ap, ◌∙◌, ap₂, inl, inr, append_assoc, append-nil, add-zero, arith, length-append, length-take-le, take_at}
use Rattle.bits.specs.Places.{join}
use Rattle.bits.proofs.Cases.{clash}
use Rattle.answers.specs.declared.Answer.TheVariants.{BadLength}
use Rattle.station.specs.declared.Station.{Station}
use Rattle.station.specs.Station.{start_of}
use Rattle.wire.specs.declared.Frame.{Frame}
use Rattle.wire.specs.declared.Frame.TheVariants.{Cut, Wrong}
use Rattle.wire.specs.Reads.{frame_of}
use Rattle.service.specs.Service.{respond, answer_message, answer_bytes}
use Rattle.service.specs.Runs.{Ran, run, run_further}
use Rattle.service.proofs.Running.{turn_wrong}
use Rattle.journal.specs.Journal.{Messages, station_after_messages, replies_to, Replayed, replay, counted, Follows}
use Rattle.journal.specs.Statements.{Behind, DamagedExactly, UndamagedExactly, Recorded, OnlyMessages, KeepsUp, StaysJournaled}
use Rattle.journal.proofs.Messages.{run_messages, parsed}
use Rattle.journal.proofs.Restart.{messages_cut, replay_messages}

-- behind the messages a length out of range
pub messages_wrong : (s : Station) (ms : List (List ℕ)) (rest : List ℕ) → Messages ms → frame_of rest ≡ Wrong
    → run s (join ms ++ rest)
    ≡ record { station = station_after_messages s ms; used = length (join ms); bytes = replies_to s ms ++ answer_bytes (answer_message BadLength); stop = true }
messages_wrong s ms rest w e =
    run_messages s ms rest w ∙ ap (run_further (length (join ms)) (replies_to s ms)) (turn_wrong (station_after_messages s ms) rest e) ∙ rw add-zero

-- a run by what stands behind the messages
run_sound : (s : Station) (bytes : List ℕ) (b : Behind Cut bytes)
    → run s bytes
    ≡ record { station = station_after_messages s b.messages; used = length (join b.messages); bytes = replies_to s b.messages; stop = false }
run_sound s bytes b = ap (run s) b.bytes_are ∙ messages_cut s b.messages b.rest b.each b.first

run_damaged : (s : Station) (bytes : List ℕ) (b : Behind Wrong bytes)
    → run s bytes
    ≡ record { station = station_after_messages s b.messages; used = length (join b.messages); bytes = replies_to s b.messages ++ answer_bytes (answer_message BadLength); stop = true }
run_damaged s bytes b = ap (run s) b.bytes_are ∙ messages_wrong s b.messages b.rest b.each b.first

pub damaged_exactly : DamagedExactly
damaged_exactly bytes = (there (parsed bytes), λ b. ap (λ (r : Ran). r.stop) (run_damaged start_of bytes b))
  where
    there : Behind Cut bytes ⊎ Behind Wrong bytes → (replay bytes).damaged ≡ true → Behind Wrong bytes
    there (inl b) d = clash d (ap (λ (r : Ran). r.stop) (run_sound start_of bytes b))
    there (inr b) d = b

pub sound_exactly : UndamagedExactly
sound_exactly bytes = (there (parsed bytes), λ b. ap (λ (r : Ran). r.stop) (run_sound start_of bytes b))
  where
    there : Behind Cut bytes ⊎ Behind Wrong bytes → (replay bytes).damaged ≡ false → Behind Cut bytes
    there (inl b) d = b
    there (inr b) d = clash (ap (λ (r : Ran). r.stop) (run_damaged start_of bytes b)) d

-- ---- what a run takes

-- the messages before the rest
front : (s : Station) (bytes rest : List ℕ) (ms : List (List ℕ)) → bytes ≡ join ms ++ rest → (run s bytes).used ≡ length (join ms)
    → take (run s bytes).used bytes ≡ join ms
front s bytes rest ms e u = rw (u, e) (take_at (join ms) rest (length (join ms)) refl)

-- which are no more than there are
within_by : (s : Station) (bytes rest : List ℕ) (ms : List (List ℕ)) → bytes ≡ join ms ++ rest → (run s bytes).used ≡ length (join ms)
    → (run s bytes).used ≤ length bytes
within_by s bytes rest ms e u = rw (u, ap length e, length-append (join ms) rest) (omega arith)

pub used_within : (s : Station) (input : List ℕ) → (run s input).used ≤ length input
used_within s input = by (parsed input)
  where
    by : Behind Cut input ⊎ Behind Wrong input → (run s input).used ≤ length input
    by (inl b) = within_by s input b.rest b.messages b.bytes_are (ap (λ (r : Ran). r.used) (run_sound s input b))
    by (inr b) = within_by s input b.rest b.messages b.bytes_are (ap (λ (r : Ran). r.used) (run_damaged s input b))

-- the messages that a run found
abbrev before : (s : Station) (input : List ℕ) {f : Frame} (b : Behind f input) → (run s input).used ≡ length (join b.messages)
    → (run s input).station ≡ station_after_messages s b.messages → Follows s (take (run s input).used input) (run s input).station
before s input b used station =
    record { messages = b.messages; each = b.each; bytes_are = front s input b.rest b.messages b.bytes_are used; station = station }

-- their answers, and the one to a length out of range
all_answers : (s : Station) (input : List ℕ) (ms : List (List ℕ)) (stop : Bool)
    → (run s input).bytes ≡ replies_to s ms ++ cond stop (answer_bytes (answer_message BadLength)) [] → (run s input).stop ≡ stop
    → (run s input).bytes ≡ replies_to s ms ++ cond (run s input).stop (answer_bytes (answer_message BadLength)) []
all_answers s input ms stop e q = e ∙ ap (λ (t : Bool). replies_to s ms ++ cond t (answer_bytes (answer_message BadLength)) []) (sym q)

recorded_by : (s : Station) (input : List ℕ) → Behind Cut input ⊎ Behind Wrong input → Recorded s input
recorded_by s input (inl b) =
    let e = run_sound s input b in
    record {
      follows = before s input b (ap (λ (r : Ran). r.used) e) (ap (λ (r : Ran). r.station) e);
      answered = all_answers s input b.messages false (ap (λ (r : Ran). r.bytes) e ∙ sym (append-nil (replies_to s b.messages))) (ap (λ (r : Ran). r.stop) e);
    }
recorded_by s input (inr b) =
    let e = run_damaged s input b in
    record {
      follows = before s input b (ap (λ (r : Ran). r.used) e) (ap (λ (r : Ran). r.station) e);
      answered = all_answers s input b.messages true (ap (λ (r : Ran). r.bytes) e) (ap (λ (r : Ran). r.stop) e);
    }

pub only_messages : OnlyMessages
only_messages s input = recorded_by s input (parsed input)

-- ---- messages behind messages

pub both_messages : (ms ks : List (List ℕ)) → Messages ms → Messages ks → Messages (ms ++ ks)
both_messages [] ks w v = v
both_messages (m ∷ ms) ks (e, w) v = (e, both_messages ms ks w v)

pub join_both : (ms ks : List (List ℕ)) → join (ms ++ ks) ≡ join ms ++ join ks
join_both [] ks = refl
join_both (m ∷ ms) ks = ap (◌++◌ m) (join_both ms ks) ∙ sym (append_assoc m (join ms) (join ks))

pub after_both : (s : Station) (ms ks : List (List ℕ)) → station_after_messages s (ms ++ ks) ≡ station_after_messages (station_after_messages s ms) ks
after_both s [] ks = refl
after_both s (m ∷ ms) ks = after_both (respond s m).station ms ks

-- a count goes on past its end as the whole would
wrapped : (a b : ℕ) → counted (counted a + b) ≡ counted (a + b)
wrapped a b = omega arith

pub keeps_up : KeepsUp
keeps_up ms input w =
    let s = (replay (join ms)).station in
    let k = (only_messages s input).follows in
    let ks = k.messages in
    let told = replay_messages start_of ms w in
    let used : length (join ks) ≡ (run s input).used =
    sym (ap length k.bytes_are) ∙ length-take-le (run s input).used input (used_within s input) in
    ap (λ (l : List ℕ). replay (join ms ++ l)) k.bytes_are
    ∙ ap replay (sym (join_both ms ks))
    ∙ replay_messages start_of (ms ++ ks) (both_messages ms ks w k.each)
    ∙ rw (after_both start_of ms ks, join_both ms ks, length-append (join ms) (join ks), ← ap (λ (r : Replayed). r.station) told, ← k.station, used)

pub stays_journaled : StaysJournaled
stays_journaled s next n bytes j f =
    let g = j.follows in
    let ms = g.messages in
    let ks = f.messages in
    record {
      bytes = j.bytes ++ bytes;
      follows =
          record {
            messages = ms ++ ks;
            each = both_messages ms ks g.each f.each;
            bytes_are = ap₂ ◌++◌ g.bytes_are f.bytes_are ∙ sym (join_both ms ks);
            station = f.station ∙ ap (λ (x : Station). station_after_messages x ks) g.station ∙ sym (after_both start_of ms ks);
          };
      long = rw (j.long, length-append j.bytes bytes) (wrapped (length j.bytes) (length bytes));
    }
