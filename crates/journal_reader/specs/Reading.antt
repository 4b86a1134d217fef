-- A journal that is read append by append, through a buffer: what a reading knows of the bytes that stand in the buffer after each step.
-- Which bytes a read brings no contract can say; all that is said here is of the bytes that it left. Assumes nothing.
use Rattle.std.specs.Prelude.{◌≡◌, ℕ, ◌+◌, ◌-◌, ◌<◌, ◌≤◌, Bool, true, false, cond, ◌||◌, List, [], ◌∷◌, ◌++◌, length, take, drop, ◌==◌, nat_lt}
use Rattle.bits.specs.Places.{join}
use Rattle.journal.specs.Journal.{counted}
use Rattle.checksum.specs.Checksum.{crc_over}
use Rattle.checksum.specs.Slices.{slices}
use Rattle.journal_file.specs.declared.Kind.TheVariants.{Good}
use Rattle.journal_file.specs.declared.Replay.{Replay}
use Rattle.journal_file.specs.Appends.{numbers_size, Over, front_of, zeroed}
use Rattle.journal_file.specs.Heads.{head_size, head_of, head_name}
use Rattle.journal_file.specs.Replaying.{file_replay_begun, step_of, Leads}
use Rattle.journal_file.specs.Cards.{has_cards, some_has_cards, journal_numbers}
use Rattle.journal_reader.specs.declared.Reading.{Reading}
use Rattle.journal_reader.specs.declared.Beginning.{Beginning}
use Rattle.journal_reader.specs.declared.Rest.{Rest}
use Rattle.journal_reader.specs.declared.Rest.TheVariants.{Nothing, Torn, Damaged}

-- ---- a buffer

-- the bytes of a buffer from one place up to another
abbrev pub part : ℕ → ℕ → List ℕ → List ℕ
part from to m = take (to - from) (drop from m)

-- a reading lies within a buffer of n bytes, which has room for the append that was taken last and for more than the next
abbrev pub ReadingWithin : Reading → ℕ → Type 0
ReadingWithin q n = (131099 ≤ n) × (q.from ≤ q.at) × (q.at ≤ q.end) × (q.end ≤ n)

-- the append that was taken last, or the head, as it stands in the buffer
abbrev pub last_in : Reading → List ℕ → List ℕ
last_in q buf = part q.from q.at buf

-- what stands behind it
abbrev pub rest_in : Reading → List ℕ → List ℕ
rest_in q buf = part q.at q.end buf

-- ---- the head

-- the bytes that are looked at for a head, of so many
abbrev pub head_in : ℕ → List ℕ → List ℕ
head_in end buf = take (cond (nat_lt end head_size) end head_size) buf

-- a reading begins behind the head, which stands at the front of the buffer
abbrev pub ReadingBegins : Over → Beginning → List ℕ → Type 0
ReadingBegins over b buf =
    (b.reading.end ≤ length buf)
    × (b.kind ≡ (head_of over (head_in b.reading.end buf)).kind)
    × (b.reading.replay ≡ file_replay_begun over (head_in b.reading.end buf))
    × (b.reading.place ≡ head_size)
    × (b.reading.from ≡ 0)
    × (b.reading.at ≡ head_size)

-- ---- one step

-- the right tables, and room for all answers to an append
abbrev pub BuffersLent : List ℕ → List ℕ → Type 0
BuffersLent t room = (t ≡ slices) × (327680 ≤ length room)

-- no append was taken: the reading stays where it is, and the last one still stands in the buffer
abbrev pub Stays : Reading → List ℕ → Reading → List ℕ → Type 0
Stays q before r after = (r.replay ≡ q.replay) × (r.place ≡ q.place) × (last_in r after ≡ last_in q before)

-- an append was taken: it stands in the buffer, whole and alone, and takes the replay to the next
abbrev pub AppendTakes : Reading → Reading → List ℕ → Type 0
AppendTakes q r after =
    let a = last_in r after in
    (0 < length a)
    × ((step_of crc_over q.replay a).took ≡ length a)
    × (r.replay ≡ (step_of crc_over q.replay a).replay)
    × (r.place ≡ counted (q.place + length a))

-- what a step leaves
abbrev pub Next : List ℕ → List ℕ → Reading → List ℕ → Reading → List ℕ → Type 0
Next t room q before r after =
    (r.well ≡ true → ReadingWithin r (length before))
    × (r.took ≡ false → Stays q before r after)
    × (r.took ≡ true → BuffersLent t room → AppendTakes q r after)

-- ---- cards

-- the numbers of cards after an append, as they are found in its bytes: its own where it has cards, else those before
abbrev pub numbers_found : List ℕ → List ℕ → List ℕ
numbers_found before a = cond (nat_lt (length a) 176) before (cond (has_cards a) (take numbers_size (drop 8 a)) before)

-- ---- the end

-- what the bytes up to the file's end are, behind an append with this checksum at this place
unfoldable pub rest_of : Over → ℕ → ℕ → List ℕ → Rest
rest_of over sum place m =
    cond (length m == 0) Nothing (cond ((front_of over sum m).short || zeroed over sum place m) Torn Damaged)

-- ---- all steps

-- the last of some appends, or the head where there are none
abbrev pub last_append : List ℕ → List (List ℕ) → List ℕ
last_append head [] = head
last_append head (a ∷ more) = last_append a more

-- a head is of the garage that is asked for, where one is: the name in it is that garage's
abbrev pub HeadOfGarage : List ℕ → List ℕ → Type 0
HeadOfGarage asked head = 0 < length asked → head_name head ≡ asked

-- a good head, of the garage that is asked for, and appends of so many bytes make this replay, and these bytes are the last of them
pub record ReplayStands (asked : List ℕ) (r : Replay) (n : ℕ) (last : List ℕ) : Type 0 where
  pub head : List ℕ
  pub appends : List (List ℕ)
  pub headed : (length head ≡ head_size) × ((head_of crc_over head).kind ≡ Good)
  pub named : HeadOfGarage asked head
  pub leads : Leads (file_replay_begun crc_over head) appends r
  pub long : n ≡ counted (length (head ++ join appends))
  pub last_is : last ≡ last_append head appends

-- so it is with what was read, as it stands in the buffer
abbrev pub StandsIn : List ℕ → Reading → List ℕ → Type 0
StandsIn asked q buf = ReplayStands asked q.replay q.place (last_in q buf)

-- and with these numbers of cards, where an append has any
pub record CardsStand (asked : List ℕ) (q : Reading) (cards : Bool) (numbers buf : List ℕ) : Type 0 where
  pub stands : StandsIn asked q buf
  pub cards_are : cards ≡ some_has_cards stands.appends
  pub numbers_are : numbers ≡ journal_numbers stands.appends
