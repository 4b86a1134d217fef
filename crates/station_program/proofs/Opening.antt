-- A journal without cards makes the station that the program begins with. Assumes nothing.
use mathlib.Core.Path.{◌≡◌, sym, subst, ◌∙◌}
use mathlib.Core.Bool.{true, false}
use mathlib.Core.List.{List, []}
use Prim.Native.Nat.{ℕ}
use native.Mathlib.Omega.{arith}
use Rattle.journal_file.specs.Cards.{no_numbers}
use Rattle.journal_file.proofs.Cards.{no_cards_no_numbers}
use Rattle.journal_reader.specs.Reading.{BuffersLent, CardsStand}
use Rattle.journal_keeper.specs.declared.Journal.{Journal}
use Rattle.journal_keeper.specs.declared.opening.Found.{Found}
use Rattle.journal_keeper.specs.Keeping.{JournalMakes}
use Rattle.journal_keeper.specs.Opened.{ReadToEnd, GoneOn}
use Rattle.journal_keeper.proofs.OpeningStands.{found_makes}
use Rattle.station_program.specs.Keeping.{StationMakes}
use Rattle.station_program.specs.Opened.{Opened, OpenedIfKept}

pub opens : (t room asked buf : List ℕ) (f : Found) (j : Journal) → ReadToEnd t room asked f buf → f.cards ≡ false → GoneOn f j
    → OpenedIfKept t room asked buf j
opens t room asked buf f j read none gone kept =
    record { found = f; read = read; gone = gone; cardless = none; makes = makes }
  where
    makes : BuffersLent t room → StationMakes j
    makes l =
        let s = read.2 l in
        let e : f.numbers ≡ no_numbers = s.numbers_are ∙ no_cards_no_numbers s.stands.appends (sym s.cards_are ∙ none) in
        subst (λ (n : List ℕ). JournalMakes n j) e (found_makes t room asked buf f j read gone l)

-- a journal of the garage that was asked for is one where none is asked for
pub whichever : (t room asked buf : List ℕ) (j : Journal) → OpenedIfKept t room asked buf j → OpenedIfKept t room [] buf j
whichever t room asked buf j o k =
    let w = o k in
    let f = w.found in
    let any : CardsStand asked f.reading f.cards f.numbers buf → CardsStand [] f.reading f.cards f.numbers buf =
    λ c. let x = c.stands in
    record {
      stands = record { head = x.head; appends = x.appends; headed = x.headed; named = λ h. absurd (omega (arith, h)); leads = x.leads; long = x.long; last_is = x.last_is };
      cards_are = c.cards_are;
      numbers_are = c.numbers_are;
    } in
    record { found = f; read = (w.read.0, w.read.1, λ l. any (w.read.2 l)); gone = w.gone; cardless = w.cardless; makes = w.makes }
