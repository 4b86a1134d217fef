-- How a journal is gone on with from where it was found. Assumes nothing.
use Rattle.std.proofs.Common.{◌≡◌, ℕ, Bool, true, false, ◌||◌, List, sym, ap, ◌∙◌, subst, arith}
use Rattle.station.specs.declared.Station.{Station}
use Rattle.checksum.specs.Checksum.{crc_over}
use Rattle.journal_file.specs.declared.Replay.{Replay}
use Rattle.journal_file.specs.Replaying.{file_replay_begun, Leads}
use Rattle.journal_file.specs.Cards.{has_cards, CardsJournaled}
use Rattle.journal_reader.specs.declared.Reading.{Reading}
use Rattle.journal_reader.specs.declared.Rest.{Rest}
use Rattle.journal_reader.specs.declared.Rest.TheVariants as rests
use Rattle.journal_reader.specs.Reading.{BuffersLent, ReplayStands, numbers_found, CardsStand}
use Rattle.journal_keeper.specs.declared.Journal.{Journal}
use Rattle.journal_keeper.specs.declared.opening.Found.{Found}
use Rattle.journal_keeper.specs.Keeping.{JournalMakes}
use Rattle.journal_keeper.specs.Opened.{ReadToEnd, GoneOn}

module _ (t room asked buf : List ℕ) (f : Found) (j : Journal) (read : ReadToEnd t room asked f buf) (gone : GoneOn f j)
    (lent : BuffersLent t room) where
  abbrev found : CardsStand asked f.reading f.cards f.numbers buf
  found = read.2 lent

  abbrev replay_of : Station → ℕ → Bool → Replay
  replay_of s k c = record { station = s; sum = k; closed = c }

  abbrev r : Replay
  r = f.reading.replay

  same_replay : r ≡ replay_of j.station j.sum false
  same_replay =
      ap (λ (c : Bool). replay_of r.station r.sum c) read.1.0
      ∙ ap (λ (s : Station). replay_of s r.sum false) (sym gone.0)
      ∙ ap (λ (k : ℕ). replay_of j.station k false) (sym gone.1)

  -- it makes the journal's station and the numbers that were found
  pub found_makes : JournalMakes f.numbers j
  found_makes k =
      let s = found.stands in
      record {
        file = record {
          head = s.head;
          appends = s.appends;
          headed = s.headed;
          leads = subst (λ (x : Replay). Leads (file_replay_begun crc_over s.head) s.appends x) same_replay s.leads;
          long = gone.2 ∙ s.long;
        };
        numbers_are = found.numbers_are;
      }

-- the same cards and numbers, as code finds them
pub cards_same : {asked buf : List ℕ} {q : Reading} (cards : Bool) (was a : List ℕ) {has : Bool} {numbers : List ℕ} → has ≡ has_cards a → numbers ≡ numbers_found was a
    → CardsStand asked q (cards || has_cards a) (numbers_found was a) buf → CardsStand asked q (cards || has) numbers buf
cards_same {asked} {buf} {q} cards was a {has} {numbers} h n s =
    subst (λ (x : List ℕ). CardsStand asked q (cards || has) x buf) (sym n) (subst (λ (b : Bool). CardsStand asked q (cards || b) (numbers_found was a) buf) (sym h) s)

-- what stands behind the last append is one thing only
abbrev rest_number : Rest → ℕ
rest_number rests.Nothing = 0
rest_number rests.Torn = 1
rest_number rests.Damaged = 2

pub nothing_sound : {r : Rest} → r ≡ rests.Nothing → r ≡ rests.Damaged → ⊥
nothing_sound n d = omega (arith, ap rest_number (sym n ∙ d))

pub torn_sound : {r : Rest} → r ≡ rests.Torn → r ≡ rests.Damaged → ⊥
torn_sound n d = omega (arith, ap rest_number (sym n ∙ d))
