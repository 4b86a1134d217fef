-- One message: what the code puts together is what happens, and the next station. Assumes nothing.
use mathlib.Core.Path.{◌≡◌, sym, ap, ◌∙◌}
use mathlib.Core.Bool.{Bool, true, false}
use mathlib.Core.List.{List}
use Prim.Native.Nat.{ℕ}
use borrow.Author.Tests.{ne_eqb}
use Rattle.floor.specs.Sound.{sound, total, cars_in}
use Rattle.station.specs.declared.Station.{Station}
use Rattle.station.specs.Station.{fit}
use Rattle.station_laws.proofs.Fits.{fit_has}
use Rattle.wire.specs.declared.What.{What}
use Rattle.wire.specs.Reads.{read_asked}
use Rattle.service.specs.declared.Reply.{Reply}
use Rattle.service.specs.Service.{respond, respond_known}
use Rattle.service.proofs.Called.{known_reply, respond_fit}
use Rattle.week.specs.declared.Tells.{Tells}
use Rattle.week.specs.declared.Step.{Step}
use Rattle.week.specs.Weeks.{kind_read, number_answered, happened}
use Rattle.week.specs.Private.{told_by, message_step}
use Rattle.week.proofs.Telling.{tells_of, taken_told}

-- the record of a fit station is sound
pub fit_sound : (s : Station) {known : Bool} → known ≡ fit s → known ≡ true → sound s.bits ≡ true
fit_sound s f t = (fit_has s (sym f ∙ t)).sound

-- the cars after a step are those of its station
pub step_cars : (s : Station) (m : List ℕ) {x : Step} → x ≡ message_step s m → x.happened.cars ≡ cars_in (total x.station.bits)
unfolding happened
step_cars s m e = rw e

module _ (s : Station) (m : List ℕ) {known : Bool} {r : Reply} (f : known ≡ fit s) (e : r ≡ respond_known known s m) where
  pub reply_is : r ≡ respond s m
  reply_is = e ∙ known_reply s m f

  -- every call keeps a fit station's record sound
  pub still_sound : known ≡ true → sound r.station.bits ≡ true
  still_sound = fit_sound r.station (f ∙ sym (ap (λ (x : Reply). fit x.station) reply_is ∙ respond_fit s m))

  module _ {k a n : ℕ} (w : What) (kind : k ≡ kind_read m) (given : w ≡ r.answer) (answer : a ≡ number_answered w) (cars : n ≡ cars_in (total r.station.bits)) where
    abbrev step : Tells → Step
    step t = record { happened = record { kind = k; answer = a; op = t.op; done = t.done; drive = t.drive; cars = n }; station = r.station }

    number_is : a ≡ number_answered (respond s m).answer
    number_is = answer ∙ ap number_answered (given ∙ ap (λ (x : Reply). x.answer) reply_is)

    pub step_taken : {t : Tells} → a ≡ 0 → t ≡ told_by s k m → step t ≡ message_step s m
    unfolding happened
    step_taken {t} z told =
        let q : number_answered (respond s m).answer ≡ 0 = sym number_is ∙ z in
        let d : t ≡ tells_of s (read_asked m).message.what = told ∙ ap (λ (x : ℕ). told_by s x m) kind ∙ taken_told s m q in
        rw (d, kind, z, cars, q, reply_is)

    pub step_refused : (a ≡ 0 → ⊥) → step (record { op = 0; done = false; drive = 0 }) ≡ message_step s m
    unfolding happened
    step_refused z = rw (ne_eqb (number_answered (respond s m).answer) 0 (rw number_is at z), kind, number_is, cars, reply_is)
