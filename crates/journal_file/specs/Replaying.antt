-- A journal's file, append after append: what each does to the station, and which files are journals. Assumes nothing.
use Rattle.std.specs.Prelude.{◌≡◌, Bool, true, false, cond, not, ◌&&◌, ◌||◌, List, [], ◌∷◌, ◌++◌, ℕ, ◌+◌, ◌-◌, ◌<◌, eqb, ltb, length}
use Rattle.bits.specs.Places.{join}
use Rattle.journal.specs.Journal.{counted}
use Rattle.station.specs.declared.Station.{Station}
use Rattle.service.specs.Runs.{run, serving}
use Rattle.checksum.specs.Checksum.{crc_over}
use Rattle.journal_file.specs.declared.Front.{Front}
use Rattle.journal_file.specs.declared.Kind.TheVariants.{Good}
use Rattle.journal_file.specs.declared.Replay.{Replay}
use Rattle.journal_file.specs.declared.Step.{Step}
use Rattle.journal_file.specs.Appends.{cut_short_kind, bad_length_kind, closed_kind, around, Over, front_of, carries_messages, lead_of, carried_messages}
use Rattle.journal_file.specs.Heads.{head_size, head_of}

-- ---- one append

-- before the first append: behind the head
abbrev pub file_replay_begun : Over → List ℕ → Replay
file_replay_begun over head = record { station = (head_of over head).station; sum = (head_of over head).sum; closed = false }

-- nothing was taken: the bytes end inside of an append, or are wrong
abbrev pub not_taken : Replay → Bool → Step
not_taken r short = record { replay = r; took = 0; short = short }

-- an append was taken
abbrev pub append_taken : Station → Front → Bool → Step
append_taken s f closed = record { replay = record { station = s; sum = f.sum; closed = closed }; took = f.carries + around; short = false }

-- the messages of one read: all of the bytes, one at least, or all behind the numbers are whole messages, and the station is the one after
-- them
abbrev pub messages_taken : Replay → Front → ℕ → Station → Step
messages_taken r f used next =
    cond ((eqb f.carries 0 || ltb f.carries (lead_of f.kind)) || not (eqb used (f.carries - lead_of f.kind)))
    (not_taken r false) (append_taken next f false)

-- a mark carries at most so many bytes: what was left of the input where a session ended, less than a message, and nothing where the journal
-- is closed
abbrev pub mark_most : ℕ → ℕ
mark_most kind = cond (eqb kind closed_kind) 0 44

-- a mark: what ended a session, or that the journal is closed
abbrev pub mark_taken : Replay → Front → Step
mark_taken r f =
    cond (ltb (mark_most f.kind) f.carries) (not_taken r false)
    (cond (eqb f.kind closed_kind) (append_taken r.station f true)
    (cond (eqb f.kind cut_short_kind || eqb f.kind bad_length_kind) (append_taken r.station f false) (not_taken r false)))

-- what the append at the front of some bytes does, where a run of its messages used so much and left this station; behind a closed journal
-- there is none
abbrev pub step_by : Replay → Front → ℕ → Station → Step
step_by r f used next =
    cond (not f.whole) (not_taken r f.short)
    (cond r.closed (not_taken r false)
    (cond (carries_messages f.kind) (messages_taken r f used next) (mark_taken r f)))

-- by the station's own run
unfoldable pub step_of : Over → Replay → List ℕ → Step
step_of over r m = let w = run r.station (carried_messages m) in step_by r (front_of over r.sum m) w.used w.station

-- ---- in a room for answers that are not written

-- what a call says, and what it leaves in the room
pub record Stepping : Type 0 where
  pub says : Step
  pub leaves : List ℕ

-- what a call says is said, and what it leaves is left
abbrev pub LeavesStep : Stepping → Step → List ℕ → Type 0
LeavesStep w q room = (q ≡ w.says) × (room ≡ w.leaves)

-- the answers are made only where the append has messages
abbrev pub answers_made : Replay → Front → Bool
answers_made r f = f.whole && not r.closed && carries_messages f.kind

-- in a room that is too short for them nothing is taken
unfoldable pub stepping : Over → Replay → List ℕ → List ℕ → Stepping
stepping over r m room =
    let f = front_of over r.sum m in
    let w = serving r.station (carried_messages m) room in
    record { says = step_by r f w.says.used w.says.station; leaves = cond (answers_made r f) w.leaves room }

-- ---- all of a file

-- each is one append and nothing else, and they take a replay to the next
abbrev pub Leads : Replay → List (List ℕ) → Replay → Type 0
Leads r [] q = q ≡ r
Leads r (a ∷ more) q = (0 < length a) × ((step_of crc_over r a).took ≡ length a) × Leads (step_of crc_over r a).replay more q

-- a good head and appends of so many bytes make this replay: its station, and the checksum that the next append goes on from
pub record FileJournaled (r : Replay) (n : ℕ) : Type 0 where
  pub head : List ℕ
  pub appends : List (List ℕ)
  pub headed : (length head ≡ head_size) × ((head_of crc_over head).kind ≡ Good)
  pub leads : Leads (file_replay_begun crc_over head) appends r
  pub long : n ≡ counted (length (head ++ join appends))
