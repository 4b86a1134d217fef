-- What is promised of a journal. Proved in proofs/. Assumes nothing.
use Rattle.std.specs.Prelude.{◌≡◌, ℕ, ◌+◌, ◌^◌, ◌<◌, ◌≤◌, true, false, cond, ◌↔◌, List, [], ◌∷◌, ◌++◌, length, take}
use Rattle.bits.specs.Places.{join}
use Rattle.answers.specs.declared.Answer.TheVariants.{BadLength}
use Rattle.station.specs.declared.Station.{Station}
use Rattle.station.specs.Station.{start_of}
use Rattle.wire.specs.declared.Frame.{Frame}
use Rattle.wire.specs.declared.Frame.TheVariants.{Cut, Wrong}
use Rattle.wire.specs.Reads.{frame_of}
use Rattle.service.specs.Service.{respond, answers, answers_on, answer_message, answer_bytes}
use Rattle.service.specs.Runs.{run, enough}
use Rattle.journal.specs.Journal.{Messages, station_after_messages, replies_to, whole_within, replay, counted, Follows, Journaled}
use Rattle.journal.specs.Pieces.{replay_further, replay_fed, replaying}

-- ---- a restart

-- after a restart from a journal the answers are those that the run without it would have given to the further input
abbrev pub GoesOn : Type 0
GoesOn =
    (ms : List (List ℕ)) (input : List ℕ) → Messages ms
    → answers (join ms ++ input) ≡ answers (join ms) ++ answers_on (replay (join ms)).station input

-- a journal that was cut anywhere gives the station after the messages that are whole within it, and says how many bytes they are; it is
-- never taken for a damaged one
abbrev pub TornTail : Type 0
TornTail =
    (ms : List (List ℕ)) (n : ℕ) → Messages ms
    → replay (take n (join ms)) ≡ record { station = station_after_messages start_of (whole_within n ms); whole = length (join (whole_within n ms)); damaged = false }

-- after a restart from a journal that was cut, with the rest cut off, the answers go on from the messages that are whole in it
abbrev pub GoesOnTorn : Type 0
GoesOnTorn =
    (ms : List (List ℕ)) (n : ℕ) (input : List ℕ) → Messages ms
    → let torn = take n (join ms) in
    let kept = take (replay torn).whole torn in
    (kept ≡ join (whole_within n ms)) × (answers (kept ++ input) ≡ answers kept ++ answers_on (replay torn).station input)

-- ---- which bytes are a journal

-- some bytes are whole messages and then others, whose first message is so
pub record Behind (f : Frame) (bytes : List ℕ) : Type 0 where
  pub messages : List (List ℕ)
  pub rest : List ℕ
  pub each : Messages messages
  pub bytes_are : bytes ≡ join messages ++ rest
  pub first : frame_of rest ≡ f

-- bytes are damaged exactly if a length out of range stands behind whole messages
abbrev pub DamagedExactly : Type 0
DamagedExactly = (bytes : List ℕ) → ((replay bytes).damaged ≡ true) ↔ Behind Wrong bytes

-- bytes are not damaged exactly if less than a message, or nothing, stands behind whole messages
abbrev pub UndamagedExactly : Type 0
UndamagedExactly = (bytes : List ℕ) → ((replay bytes).damaged ≡ false) ↔ Behind Cut bytes

-- ---- what a turn appends

-- what a run takes of its input is whole messages, which take the station to the one that it leaves; they are answered, and nothing else
-- but a length out of range
pub record Recorded (s : Station) (input : List ℕ) : Type 0 where
  pub follows : Follows s (take (run s input).used input) (run s input).station
  pub answered : (run s input).bytes ≡ replies_to s follows.messages ++ cond (run s input).stop (answer_bytes (answer_message BadLength)) []

-- for every input, on every station, what a run takes is whole messages, and they are answered
abbrev pub OnlyMessages : Type 0
OnlyMessages = (s : Station) (input : List ℕ) → Recorded s input

-- with what a run took behind it, a journal is one again, and its station is the one that the run left
abbrev pub KeepsUp : Type 0
KeepsUp =
    (ms : List (List ℕ)) (input : List ℕ) → Messages ms
    → let r = run (replay (join ms)).station input in
    replay (join ms ++ take r.used input) ≡ record { station = r.station; whole = length (join ms) + r.used; damaged = false }

-- messages behind a journal make a longer one
abbrev pub StaysJournaled : Type 0
StaysJournaled =
    (s next : Station) (n : ℕ) (bytes : List ℕ) → Journaled s n → Follows s bytes next → Journaled next (counted (n + length bytes))

-- ---- in pieces

-- however a journal is cut into pieces, its replay tells the same
abbrev pub ReplayCutAnywhere : Type 0
ReplayCutAnywhere = (pieces : List (List ℕ)) → replay_fed start_of [] pieces ≡ replay (join pieces)

-- the replay of a piece in a buffer is one piece of a journal
abbrev pub ReplayFeeds : Type 0
ReplayFeeds =
    (s : Station) (n : ℕ) (held piece past room : List ℕ) (pieces : List (List ℕ))
    → enough (length (held ++ piece)) ≤ length room → n + length (held ++ piece) < 2 ^ 64
    → let w = replaying (record { station = s; whole = n; have = length held; damaged = false }) (held ++ (piece ++ past)) (length held + length piece) room in
    let r = w.says in
    replay_further n (replay_fed s held (piece ∷ pieces))
    ≡ cond r.damaged (record { station = r.station; whole = r.whole; damaged = true })
    (replay_further r.whole (replay_fed r.station (take r.have w.buffer) pieces))

-- ---- that there are such journals

-- a drive-in begins, and the image is asked for
abbrev pub two_messages : List (List ℕ)
two_messages = (3 ∷ 0 ∷ 2 ∷ 0 ∷ 1 ∷ []) ∷ (2 ∷ 0 ∷ 5 ∷ 0 ∷ []) ∷ []

-- two messages are a journal; cut within the second, the first is left; with a length of 0 behind them they are damaged
abbrev pub Example : Type 0
Example =
    Messages two_messages
    × ((replay (take 8 (join two_messages))).whole ≡ 5)
    × ((replay (take 8 (join two_messages))).station ≡ (respond start_of (3 ∷ 0 ∷ 2 ∷ 0 ∷ 1 ∷ [])).station)
    × ((replay (join two_messages ++ (0 ∷ 0 ∷ []))).damaged ≡ true)
