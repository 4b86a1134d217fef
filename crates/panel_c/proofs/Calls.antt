-- A call of the plain station on a fit one is that of the packed station. Assumes nothing.
use mathlib.Core.Path.{◌≡◌, ap, ◌∙◌}
use mathlib.Core.Bool.{true, false, cond}
use mathlib.Core.List.{List}
use Prim.Native.Nat.{ℕ, ◌^◌, ◌<◌}
use Rattle.answers.specs.declared.Answer.TheVariants.{Unfit}
use Rattle.station.specs.declared.Station.{Station}
use Rattle.station.specs.declared.Outcome.{Outcome}
use Rattle.station.specs.declared.Report.{Report}
use Rattle.station.specs.Station.{fit}
use Rattle.station.specs.Calls.{refused, requested, request, evented, event, resulted, result}
use Rattle.plain_station.specs.declared.Plain.{Plain}
use Rattle.plain_station.specs.declared.PlainOutcome.{PlainOutcome}
use Rattle.plain_station.specs.Plain.{plain_of, packed_outcome, plain_requested, plain_evented, plain_resulted}
use Rattle.plain_station.proofs.Outcomes.{where_true, where_false}
use Rattle.plain_laws.specs.Promises.{SoundStation}
use Rattle.plain_laws.proofs.Promises.{fit_is_sound, same_as_packed}

module _ (s : Station) where
  -- a call on a fit station goes on, any other is refused
  goes_on : (o : Outcome) → fit s ≡ true → o ≡ cond (fit s) o (refused s Unfit)
  goes_on o f = where_true (fit s) o (refused s Unfit) f

  module _ {o : Outcome} (f : fit s ≡ false) (e : o ≡ refused s Unfit) where
    pub unfit_request : (n : ℕ) (set : List ℕ) → o ≡ request s n set
    unfolding request
    unfit_request n set = e ∙ where_false (fit s) (requested s n set) (refused s Unfit) f

    pub unfit_event : (way : ℕ) → o ≡ event s way
    unfolding event
    unfit_event way = e ∙ where_false (fit s) (evented s way) (refused s Unfit) f

    pub unfit_result : (r : Report) → o ≡ result s r
    unfolding result
    unfit_result r = e ∙ where_false (fit s) (resulted s r) (refused s Unfit) f

  module _ (b : s.bits < 2 ^ 64) (m : s.answered < 2 ^ 8) (f : fit s ≡ true) {p : Plain} (e : p ≡ plain_of s) where
    sound_one : SoundStation s
    sound_one = fit_is_sound s b m f

    pub plain_request : (n : ℕ) (set : List ℕ) {q : PlainOutcome} {o : Outcome} → q ≡ plain_requested p n set → o ≡ packed_outcome q → o ≡ request s n set
    unfolding request
    plain_request n set d c =
        c ∙ ap packed_outcome (d ∙ ap (λ (x : Plain). plain_requested x n set) e) ∙ same_as_packed.set s n set sound_one ∙ goes_on (requested s n set) f

    pub plain_event : (way : ℕ) {q : PlainOutcome} {o : Outcome} → q ≡ plain_evented p way → o ≡ packed_outcome q → o ≡ event s way
    unfolding event
    plain_event way d c =
        c ∙ ap packed_outcome (d ∙ ap (λ (x : Plain). plain_evented x way) e) ∙ same_as_packed.event s way sound_one ∙ goes_on (evented s way) f

    pub plain_result : (r : Report) {q : PlainOutcome} {o : Outcome} → q ≡ plain_resulted p r → o ≡ packed_outcome q → o ≡ result s r
    unfolding result
    plain_result r d c =
        c ∙ ap packed_outcome (d ∙ ap (λ (x : Plain). plain_resulted x r) e) ∙ same_as_packed.result s r sound_one ∙ goes_on (resulted s r) f
