-- After a restart the station goes on where it was, from a journal that was cut anywhere too. Assumes nothing.
use Rattle.std.proofs.Common.{◌≡◌, ℕ, ◌+◌, ◌-◌, false, cond, leb, List, [], ◌∷◌, ◌++◌, length, take, drop, sym, refl, ap, ◌∙◌, ap₂, append_assoc, append-nil, add-zero, arith, take_at, leb-false, leb-true}
use lib.Seq.{take-append-le, take-append-add, take-nil, drop-length}
use Rattle.bits.specs.Places.{join}
use Rattle.bits.proofs.Cases.{split}
use Rattle.station.specs.declared.Station.{Station}
use Rattle.station.specs.Station.{start_of}
use Rattle.wire.specs.declared.Frame.TheVariants.{Cut}
use Rattle.wire.specs.Reads.{frame_of}
use Rattle.service.specs.Service.{answers_on}
use Rattle.service.specs.Runs.{Ran, run, run_further, feed}
use Rattle.service.proofs.Running.{turn_cut}
use Rattle.service.proofs.Pieces.{no_input, cut_anywhere}
use Rattle.journal.specs.Journal.{Messages, station_after_messages, replies_to, whole_within, Replayed, replay_on, replay}
use Rattle.journal.specs.Statements.{GoesOn, TornTail, GoesOnTorn}
use Rattle.journal.proofs.Frames.{front_cut}
use Rattle.journal.proofs.Messages.{run_messages}

-- ---- whole messages

-- behind them less than a message
pub messages_cut : (s : Station) (ms : List (List ℕ)) (rest : List ℕ) → Messages ms → frame_of rest ≡ Cut
    → run s (join ms ++ rest) ≡ record { station = station_after_messages s ms; used = length (join ms); bytes = replies_to s ms; stop = false }
messages_cut s ms rest w e =
    run_messages s ms rest w ∙ ap (run_further (length (join ms)) (replies_to s ms)) (turn_cut (station_after_messages s ms) rest e) ∙ rw (append-nil, add-zero)

-- and nothing
pub messages_alone : (s : Station) (ms : List (List ℕ)) → Messages ms
    → run s (join ms) ≡ record { station = station_after_messages s ms; used = length (join ms); bytes = replies_to s ms; stop = false }
messages_alone s ms w = ap (run s) (sym (append-nil (join ms))) ∙ messages_cut s ms [] w refl

-- what is answered to messages and what follows them
pub goes_on_from : (s : Station) (ms : List (List ℕ)) (input : List ℕ) → Messages ms
    → answers_on s (join ms ++ input) ≡ replies_to s ms ++ answers_on (station_after_messages s ms) input
unfolding feed
goes_on_from s ms input w =
    let a = join ms in
    let x = station_after_messages s ms in
    ap (λ (l : List ℕ). answers_on s (a ++ l)) (sym (append-nil input))
    ∙ sym (cut_anywhere s (a ∷ input ∷ []))
    ∙ ap (λ (r : Ran). r.bytes ++ cond r.stop [] (feed r.station (drop r.used a) (input ∷ []))) (messages_alone s ms w)
    ∙ ap (λ (l : List ℕ). replies_to s ms ++ feed x l (input ∷ [])) (drop-length a)
    ∙ ap (◌++◌ (replies_to s ms)) (cut_anywhere x (input ∷ []) ∙ ap (answers_on x) (append-nil input))

-- and to messages alone
answers_alone : (s : Station) (ms : List (List ℕ)) → Messages ms → answers_on s (join ms) ≡ replies_to s ms
answers_alone s ms w =
    ap (answers_on s) (sym (append-nil (join ms)))
    ∙ goes_on_from s ms [] w
    ∙ ap (◌++◌ (replies_to s ms)) (no_input (station_after_messages s ms))
    ∙ append-nil (replies_to s ms)

pub replay_messages : (s : Station) (ms : List (List ℕ)) → Messages ms
    → replay_on s (join ms) ≡ record { station = station_after_messages s ms; whole = length (join ms); damaged = false }
replay_messages s ms w = ap (λ (r : Ran). record { station = r.station; whole = r.used; damaged = r.stop }) (messages_alone s ms w)

pub goes_on : GoesOn
goes_on ms input w =
    goes_on_from start_of ms input w
    ∙ ap₂ (λ (l : List ℕ) (s : Station). l ++ answers_on s input) (sym (answers_alone start_of ms w))
    (sym (ap (λ (r : Replayed). r.station) (replay_messages start_of ms w)))

-- ---- cut anywhere

-- some bytes are these messages, and less than a message behind them
record Torn (bytes : List ℕ) (ks : List (List ℕ)) : Type 0 where
  rest : List ℕ
  each : Messages ks
  bytes_are : bytes ≡ join ks ++ rest
  first : frame_of rest ≡ Cut

torn : (n : ℕ) (ms : List (List ℕ)) → Messages ms → Torn (take n (join ms)) (whole_within n ms)
torn n [] w = record { rest = []; each = tt; bytes_are = take-nil n; first = refl }
torn n (m ∷ ms) (e, w) =
    split (leb (length m) n)
    (λ h.
    let t = torn (n - length m) ms w in
    let k : n ≡ length m + (n - length m) = let z = leb-true (length m) n h in omega arith in
    rw h
    (record {
      rest = t.rest;
      each = (e, t.each);
      bytes_are = ap (λ (j : ℕ). take j (m ++ join ms)) k ∙ take-append-add m (join ms) (n - length m) ∙ ap (◌++◌ m) t.bytes_are ∙ sym (append_assoc m (join (whole_within (n - length m) ms)) t.rest);
      first = t.first;
    }))
    (λ h.
    let z = leb-false (length m) n h in
    rw h (record { rest = take n m; each = tt; bytes_are = take-append-le n m (join ms) (omega arith); first = front_cut m n e (omega arith) }))

replay_cut : (s : Station) (ms : List (List ℕ)) (rest : List ℕ) → Messages ms → frame_of rest ≡ Cut
    → replay_on s (join ms ++ rest) ≡ record { station = station_after_messages s ms; whole = length (join ms); damaged = false }
replay_cut s ms rest w e = ap (λ (r : Ran). record { station = r.station; whole = r.used; damaged = r.stop }) (messages_cut s ms rest w e)

pub torn_tail : TornTail
torn_tail ms n w =
    let t = torn n ms w in
    ap replay t.bytes_are ∙ replay_cut start_of (whole_within n ms) t.rest t.each t.first

pub goes_on_torn : GoesOnTorn
goes_on_torn ms n input w =
    let t = torn n ms w in
    let ks = whole_within n ms in
    let told = torn_tail ms n w in
    let kept : take (replay (take n (join ms))).whole (take n (join ms)) ≡ join ks =
    ap (λ (r : Replayed). take r.whole (take n (join ms))) told
    ∙ ap (take (length (join ks))) t.bytes_are
    ∙ take_at (join ks) t.rest (length (join ks)) refl in (
      kept,
      rw (kept, ap (λ (r : Replayed). r.station) told)
          (goes_on_from start_of ks input t.each ∙ rw (← answers_alone start_of ks t.each)),
    )
