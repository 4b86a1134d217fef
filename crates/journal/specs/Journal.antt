-- A journal is the messages that a station was sent, one behind the other and nothing else. What station they make, and what the replay
-- of any bytes tells. Assumes nothing.
use Rattle.std.specs.Prelude.{◌≡◌, ℕ, ◌-◌, ◌%◌, ◌^◌, Bool, cond, List, [], ◌∷◌, ◌++◌, length, nat_le}
use Rattle.bits.specs.Places.{join}
use Rattle.station.specs.declared.Station.{Station}
use Rattle.station.specs.Station.{start_of}
use Rattle.wire.specs.declared.Frame.TheVariants.{Whole}
use Rattle.wire.specs.Reads.{frame_of}
use Rattle.service.specs.Service.{respond, answer_bytes}
use Rattle.service.specs.Runs.{run}

-- each is one whole message, and nothing stands behind it
abbrev pub Messages : List (List ℕ) → Type 0
Messages [] = Unit {0}
Messages (m ∷ ms) = (frame_of m ≡ Whole (length m)) × Messages ms

-- the station after some messages, one after the other
abbrev pub station_after_messages : Station → List (List ℕ) → Station
station_after_messages s [] = s
station_after_messages s (m ∷ ms) = station_after_messages (respond s m).station ms

-- what they are answered with
abbrev pub replies_to : Station → List (List ℕ) → List ℕ
replies_to s [] = []
replies_to s (m ∷ ms) = answer_bytes (respond s m).answer ++ replies_to (respond s m).station ms

-- those that lie whole within the first n bytes
abbrev pub whole_within : ℕ → List (List ℕ) → List (List ℕ)
whole_within n [] = []
whole_within n (m ∷ ms) = cond (nat_le (length m) n) (m ∷ whole_within (n - length m) ms) []

-- what the replay of some bytes tells: the station after the whole messages at their front, how many bytes these are, and whether the
-- bytes are damaged behind them
pub record Replayed : Type 0 where
  pub station : Station
  pub whole : ℕ
  pub damaged : Bool

-- replay is the station's own run, of which no answer is written
abbrev pub replay_on : Station → List ℕ → Replayed
replay_on s bytes = let r = run s bytes in record { station = r.station; whole = r.used; damaged = r.stop }

-- of a journal: from the start on
abbrev pub replay : List ℕ → Replayed
replay bytes = replay_on start_of bytes

-- a number as the machine counts bytes
abbrev pub counted : ℕ → ℕ
counted n = n % 2 ^ 64

-- some bytes are whole messages, and these take a station to the next
pub record Follows (s : Station) (bytes : List ℕ) (next : Station) : Type 0 where
  pub messages : List (List ℕ)
  pub each : Messages messages
  pub bytes_are : bytes ≡ join messages
  pub station : next ≡ station_after_messages s messages

-- the station is the one that a journal of so many bytes makes
pub record Journaled (s : Station) (n : ℕ) : Type 0 where
  pub bytes : List ℕ
  pub follows : Follows start_of bytes s
  pub long : n ≡ counted (length bytes)
