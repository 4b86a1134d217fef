-- The desk's calls by what the code has found on the way: whether the numbers fit, what the station says, what is asked of a card's number.
-- The station's own test of fitness stands for the desk's. Assumes nothing.
use mathlib.Core.Path.{◌≡◌, sym, ap, ap₂, ◌∙◌}
use mathlib.Core.Bool.{Bool, true, false, cond}
use mathlib.Core.List.{List}
use Prim.Native.Nat.{ℕ}
use lib.Dec.{eqb}
use borrow.Author.Tests.{eq-eqb, ne_eqb}
use Rattle.bits.proofs.Cases.{split}
use Rattle.rules.specs.declared.Event.TheVariants.{BeginIn}
use Rattle.rules.specs.Codes.{read_event}
use Rattle.answers.specs.declared.Answer.TheVariants.{Taken, Unfit}
use Rattle.station.specs.declared.Outcome.{Outcome}
use Rattle.station.specs.declared.Report.{Report}
use Rattle.station.specs.Held.{code_at}
use Rattle.station.specs.Station.{fit}
use Rattle.station.specs.Calls as station
use Rattle.cards.specs.Held.{cards_fit, code_cards, cards_driven, is_known}
use Rattle.desk.specs.declared.Desk.{Desk}
use Rattle.desk.specs.declared.DeskOutcome.{DeskOutcome}
use Rattle.desk.specs.declared.Reply.TheVariants.{Told, ZeroNumber, KnownNumber}
use Rattle.desk.specs.Desk.{desk_fit, is_taken}
use Rattle.desk.specs.Calls.{desk_refused, on_fit_desk, where_taken, desk_holding, desk_begun, passed, desk_ask}

module _ (d : Desk) where
  -- the numbers fit the record
  abbrev pub Fits : Bool → Type 0
  Fits b = cards_fit d.station.bits d.numbers ≡ b

  -- numbers that don't fit are refused before all else
  pub misfit : (p : DeskOutcome) → Fits false → desk_refused d (Told Unfit) ≡ on_fit_desk d p
  unfolding desk_fit
  misfit p e = split (fit d.station) (λ f. rw (f, e)) (λ f. rw f)

  -- the record is asked for
  abbrev asked : Bool → DeskOutcome
  asked t = cond t (desk_refused d (Told Taken)) (desk_refused d (Told Unfit))

  pub ask_unfit : desk_fit d ≡ false → desk_refused d (Told Unfit) ≡ desk_ask d
  unfolding desk_ask
  ask_unfit e = ap asked (sym e)

  pub ask_fit : desk_fit d ≡ true → desk_refused d (Told Taken) ≡ desk_ask d
  unfolding desk_ask
  ask_fit e = ap asked (sym e)

  -- what the station says: refused, or taken
  pub says_no : (x : Outcome) (p : DeskOutcome) → is_taken x.answer ≡ false → desk_refused d (Told x.answer) ≡ where_taken d x p
  says_no x p e = ap (λ (t : Bool). cond t p (desk_refused d (Told x.answer))) (sym e)

  pub says_yes : (x : Outcome) (p : DeskOutcome) → is_taken x.answer ≡ true → p ≡ where_taken d x p
  says_yes x p e = ap (λ (t : Bool). cond t p (desk_refused d (Told x.answer))) (sym e)

  -- where the numbers fit, the station's call with its own test of fitness is what the desk goes by
  module _ (o : Outcome) (p : Outcome → DeskOutcome) {x : Outcome} (h : x ≡ station.on_fit d.station o) (e : Fits true) where
    pub through : where_taken d x (p x) ≡ on_fit_desk d (where_taken d o (p o))
    unfolding desk_fit
    through = ap (λ (y : Outcome). where_taken d y (p y)) h ∙ split (fit d.station) (λ f. rw (f, e)) (λ f. rw f)

    pub turned_down : is_taken x.answer ≡ false → desk_refused d (Told x.answer) ≡ on_fit_desk d (where_taken d o (p o))
    turned_down n = says_no x (p x) n ∙ through

    pub goes_on : is_taken x.answer ≡ true → p x ≡ on_fit_desk d (where_taken d o (p o))
    goes_on y = says_yes x (p x) y ∙ through

  -- ---- a result

  module _ (r : Report) where
    -- the numbers after a success of the instruction that it names, and after the result
    abbrev pub done : List ℕ
    done = code_cards (code_at d.station.set r.number) d.station.bits d.numbers

    abbrev pub followed : List ℕ
    followed = cond (eqb r.ending 1) done d.numbers

    pub followed_done : r.ending ≡ 1 → done ≡ followed
    followed_done e = ap (λ (t : Bool). cond t done d.numbers) (sym (eq-eqb r.ending 1 e))

    pub followed_not : (r.ending ≡ 1 → ⊥) → d.numbers ≡ followed
    followed_not e = ap (λ (t : Bool). cond t done d.numbers) (sym (ne_eqb r.ending 1 e))

  -- ---- a car event

  module _ (o : Outcome) (c : ℕ) where
    -- a drive-in that begins, by its number
    abbrev begins : (zero known : Bool) → DeskOutcome
    begins zero known = cond zero (desk_refused d ZeroNumber) (cond known (desk_refused d KnownNumber) (desk_holding o (cards_driven BeginIn c d.numbers)))

    pub begun_zero : c ≡ 0 → desk_refused d ZeroNumber ≡ desk_begun d o c
    unfolding desk_begun
    begun_zero e = ap (λ (t : Bool). begins t (is_known d.numbers c)) (sym (eq-eqb c 0 e))

    pub begun_known : (c ≡ 0 → ⊥) → is_known d.numbers c ≡ true → desk_refused d KnownNumber ≡ desk_begun d o c
    unfolding desk_begun
    begun_known e k = ap₂ begins (sym (ne_eqb c 0 e)) (sym k)

    pub begun_new : (c ≡ 0 → ⊥) → is_known d.numbers c ≡ false → desk_holding o (cards_driven BeginIn c d.numbers) ≡ desk_begun d o c
    unfolding desk_begun
    begun_new e k = ap₂ begins (sym (ne_eqb c 0 e)) (sym k)

    -- an event that the station takes, by whether it begins a drive-in
    abbrev by_way : Bool → ℕ → DeskOutcome
    by_way t e = cond t (desk_begun d o c) (desk_holding o (passed (read_event e) d.numbers))

    abbrev pub occurs : ℕ → DeskOutcome
    occurs e = by_way (eqb e 1) e

    pub occurs_begin : (e : ℕ) → e ≡ 1 → desk_begun d o c ≡ occurs e
    occurs_begin e h = ap (λ (t : Bool). by_way t e) (sym (eq-eqb e 1 h))

    pub occurs_other : (e : ℕ) → (e ≡ 1 → ⊥) → desk_holding o (passed (read_event e) d.numbers) ≡ occurs e
    occurs_other e h = ap (λ (t : Bool). by_way t e) (sym (ne_eqb e 1 h))
