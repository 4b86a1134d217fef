-- A run over whole messages, and then what stands behind them. Every run is such a one. Assumes nothing.
use Rattle.std.proofs.Common.{◌≡◌, ℕ, zero, suc, ◌+◌, ◌≤◌, ◌⊎◌, List, [], ◌∷◌, ◌++◌, length, take, drop, sym, refl, ap, ◌∙◌, inl, inr, append_assoc, arith, length-append, take-append-drop, drop_at}
use Rattle.bits.specs.Places.{join}
use Rattle.station.specs.declared.Station.{Station}
use Rattle.wire.specs.declared.Frame.{Frame}
use Rattle.wire.specs.declared.Frame.TheVariants.{Cut, Wrong, Whole}
use Rattle.wire.specs.Reads.{frame_of}
use Rattle.service.specs.Service.{respond, answer_bytes}
use Rattle.service.specs.Runs.{run, run_further}
use Rattle.service.proofs.Running.{none_cut, shorter, turn_whole, further_none, further_more}
use Rattle.service.proofs.Pieces.{whole_more, reply_more}
use Rattle.journal.specs.Journal.{Messages, station_after_messages, replies_to}
use Rattle.journal.specs.Statements.{Behind}
use Rattle.journal.proofs.Frames.{whole_alone}

run_message : (s : Station) (m rest : List ℕ) → frame_of m ≡ Whole (length m)
    → run s (m ++ rest) ≡ run_further (length m) (answer_bytes (respond s m).answer) (run (respond s m).station rest)
run_message s m rest e =
    turn_whole s (m ++ rest) (length m) (whole_more m rest (length m) e)
    ∙ rw (reply_more s m rest (length m) e, drop_at m rest (length m) refl)

-- the messages are answered, and then the rest
pub run_messages : (s : Station) (ms : List (List ℕ)) (rest : List ℕ) → Messages ms
    → run s (join ms ++ rest) ≡ run_further (length (join ms)) (replies_to s ms) (run (station_after_messages s ms) rest)
run_messages s [] rest w = further_none (run s rest)
run_messages s (m ∷ ms) rest (e, w) =
    let x = respond s m in
    ap (run s) (append_assoc m (join ms) rest)
    ∙ run_message s m (join ms ++ rest) e
    ∙ ap (run_further (length m) (answer_bytes x.answer)) (run_messages x.station ms rest w)
    ∙ further_more (length m) (length (join ms)) (answer_bytes x.answer) (replies_to x.station ms) (run (station_after_messages x.station ms) rest)
    ∙ rw (length-append m (join ms))

-- one message more at the front
before : (f : Frame) (n : ℕ) (bytes : List ℕ) → frame_of bytes ≡ Whole n → Behind f (drop n bytes) → Behind f bytes
before f n bytes e b =
    record {
      messages = take n bytes ∷ b.messages;
      rest = b.rest;
      each = (whole_alone bytes n e, b.each);
      bytes_are =
          sym (take-append-drop n bytes) ∙ ap (◌++◌ (take n bytes)) b.bytes_are
          ∙ sym (append_assoc (take n bytes) (join b.messages) b.rest);
      first = b.first;
    }

-- all bytes are whole messages, and behind them one that is cut short or a length out of range
parsed_as : (f : Frame) (bytes : List ℕ) → frame_of bytes ≡ f
    → ((u : List ℕ) → length u + 4 ≤ length bytes → Behind Cut u ⊎ Behind Wrong u) → Behind Cut bytes ⊎ Behind Wrong bytes
parsed_as Cut bytes e rec = inl (record { messages = []; rest = bytes; each = tt; bytes_are = refl; first = e })
parsed_as Wrong bytes e rec = inr (record { messages = []; rest = bytes; each = tt; bytes_are = refl; first = e })
parsed_as (Whole n) bytes e rec = on (rec (drop n bytes) (shorter bytes n e))
  where
    on : Behind Cut (drop n bytes) ⊎ Behind Wrong (drop n bytes) → Behind Cut bytes ⊎ Behind Wrong bytes
    on (inl b) = inl (before Cut n bytes e b)
    on (inr b) = inr (before Wrong n bytes e b)

parsed_in : (k : ℕ) (bytes : List ℕ) → length bytes ≤ k → Behind Cut bytes ⊎ Behind Wrong bytes
parsed_in zero bytes h = inl (record { messages = []; rest = bytes; each = tt; bytes_are = refl; first = none_cut bytes h })
parsed_in (suc k) bytes h = parsed_as (frame_of bytes) bytes refl (λ u l. parsed_in k u (omega arith))

pub parsed : (bytes : List ℕ) → Behind Cut bytes ⊎ Behind Wrong bytes
parsed bytes = parsed_in (length bytes) bytes (omega arith)
