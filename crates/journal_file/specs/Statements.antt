-- What is promised of a journal's file, from whatever station it begins with. Proved in proofs/. Assumes nothing.
use Rattle.std.specs.Prelude.{◌≡◌, ◌⊎◌, false, cond, List, [], ◌∷◌, ◌++◌, ℕ, ◌^◌, ◌≤◌, ◌<◌, eqb, length, get_or, take, drop}
use Rattle.station.specs.declared.Station.{Station}
use Rattle.service.specs.Service.{answers_on}
use Rattle.service.specs.Runs.{run}
use Rattle.journal.specs.Journal.{Follows}
use Rattle.checksum.specs.Checksum.{crc_over}
use Rattle.journal_file.specs.declared.Replay.{Replay}
use Rattle.journal_file.specs.Appends.{messages_kind, cut_short_kind, bad_length_kind, closed_kind, numbers_kind, numbers_size, most_carried, sum_after, append_of, carries_messages, carried_messages}
use Rattle.journal_file.specs.Replaying.{mark_most, Leads}
use Rattle.journal_file.specs.Cards.{some_has_cards, no_numbers, journal_numbers}

-- the messages that some appends carry, one behind the other: what the station was sent
abbrev pub recorded_in : List (List ℕ) → List ℕ
recorded_in [] = []
recorded_in (a ∷ more) = cond (carries_messages (get_or a 0 0)) (carried_messages a) [] ++ recorded_in more

-- replay is the station's own run: the station is the one after the recorded messages, all of which are whole
abbrev pub ReplayFollows : Type 0
ReplayFollows = (r q : Replay) (appends : List (List ℕ)) → Leads r appends q → Follows r.station (recorded_in appends) q.station

-- after a restart the answers are those of the run that was never interrupted: what the recorded messages were answered with, and then
-- what the station that they make answers
abbrev pub FileGoesOn : Type 0
FileGoesOn =
    (r q : Replay) (appends : List (List ℕ)) (input : List ℕ) → Leads r appends q
    → answers_on r.station (recorded_in appends ++ input) ≡ (run r.station (recorded_in appends)).bytes ++ answers_on q.station input

-- with the messages of one read behind it, a journal that is not closed is one again, and makes the station that they make
abbrev pub FileKeepsUp : Type 0
FileKeepsUp =
    (r q : Replay) (appends : List (List ℕ)) (bytes : List ℕ) (next : Station) → Leads r appends q
    → q.closed ≡ false → q.sum < 2 ^ 32 → Follows q.station bytes next → 0 < length bytes → length bytes ≤ most_carried
    → Leads r (appends ++ (append_of crc_over q.sum messages_kind bytes ∷ []))
    (record { station = next; sum = sum_after crc_over q.sum messages_kind bytes; closed = false })

-- so it is with the numbers of a desk's cards, and behind them the messages of one read or none
abbrev pub FileKeepsCards : Type 0
FileKeepsCards =
    (r q : Replay) (appends : List (List ℕ)) (bytes : List ℕ) (next : Station) → Leads r appends q
    → q.closed ≡ false → q.sum < 2 ^ 32 → Follows q.station (drop numbers_size bytes) next → numbers_size ≤ length bytes → length bytes ≤ most_carried
    → Leads r (appends ++ (append_of crc_over q.sum numbers_kind bytes ∷ []))
    (record { station = next; sum = sum_after crc_over q.sum numbers_kind bytes; closed = false })

-- the kinds of marks
abbrev pub MarkKind : ℕ → Type 0
MarkKind kind = (kind ≡ cut_short_kind) ⊎ ((kind ≡ bad_length_kind) ⊎ (kind ≡ closed_kind))

-- with a mark behind it, it is one again, and the station stays; after the mark that closes it, it is closed
abbrev pub FileKeepsMark : Type 0
FileKeepsMark =
    (r q : Replay) (appends : List (List ℕ)) (kind : ℕ) (bytes : List ℕ) → Leads r appends q
    → q.closed ≡ false → q.sum < 2 ^ 32 → MarkKind kind → length bytes ≤ mark_most kind
    → Leads r (appends ++ (append_of crc_over q.sum kind bytes ∷ []))
    (record { station = q.station; sum = sum_after crc_over q.sum kind bytes; closed = eqb kind closed_kind })

-- ---- the numbers of a desk's cards

-- an append with cards brings its numbers, whatever they were
abbrev pub CardsBrought : Type 0
CardsBrought =
    (sum : ℕ) (appends : List (List ℕ)) (bytes : List ℕ) → sum < 2 ^ 32 → length bytes ≤ most_carried
    → journal_numbers (appends ++ (append_of crc_over sum numbers_kind bytes ∷ [])) ≡ take numbers_size bytes

-- one of another kind leaves them
abbrev pub CardsStay : Type 0
CardsStay =
    (sum kind : ℕ) (appends : List (List ℕ)) (bytes : List ℕ) → (kind ≡ numbers_kind → ⊥)
    → journal_numbers (appends ++ (append_of crc_over sum kind bytes ∷ [])) ≡ journal_numbers appends

-- where no append has cards there are none
abbrev pub NoCardsNoNumbers : Type 0
NoCardsNoNumbers = (appends : List (List ℕ)) → some_has_cards appends ≡ false → journal_numbers appends ≡ no_numbers

-- all numbers are there: an append with cards that is taken has them all
abbrev pub AllNumbers : Type 0
AllNumbers = (r q : Replay) (appends : List (List ℕ)) → Leads r appends q → length (journal_numbers appends) ≡ numbers_size
