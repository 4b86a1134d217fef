-- What a call does, image apart: one case for each way in which it is taken, and one where it is refused. Laws of all calls go by
-- these cases. Assumes nothing.
use mathlib.Core.Path.{◌≡◌, refl, sym, ap, subst}
use mathlib.Core.Bool.{Bool, true, false, cond}
use mathlib.Core.List.{List, [], ◌∷◌}
use Prim.Native.Nat.{ℕ, zero, suc}
use native.Mathlib.Omega.{arith}
use lib.Dec.{eqb}
use borrow.Author.Tests.{eqb-true, eqb-false}
use Rattle.bits.specs.Bits.{bit}
use Rattle.bits.proofs.Cases.{split}
use Rattle.rules.specs.Codes.{read_event}
use Rattle.answers.specs.declared.Answer.TheVariants.{Unfit}
use Rattle.station.specs.declared.Station.{Station}
use Rattle.station.specs.declared.Outcome.{Outcome}
use Rattle.station.specs.Held.{code_at, held_allowed}
use Rattle.station.specs.Station.{present_issue, fit, holding, opened, answering, apart_with}
use Rattle.station.specs.Calls as station
use Rattle.station.specs.Calls.{refused, taken}
use Rattle.station_laws.specs.Runs as run
use Rattle.station_laws.specs.Runs.{Call, answer_number, station_after, calls, NoImages, Begins, Reached}
use Rattle.station_laws.specs.AnswersRight.{Acceptable, Waiting}
use Rattle.station_laws.proofs.Instance.{after_as}
use Rattle.station_laws.proofs.Calls.{request_has, request_is, following, success_has, success_is, failure_has, failure_is, stuck_has, stuck_is, ending_has, Drivable, event_has, event_is}
use Rattle.station_laws.proofs.EachCall.{untouched}
use Rattle.station_laws.proofs.Fits.{waits_allowed}

-- a call leads from the station s to another
pub data Step (s : Station) : Call → Station → Type 0 where
  refuses : {c : Call} → (answer_number s c ≡ 0 → ⊥) → Step s c s
  opens : {n : ℕ} {set : List ℕ} → Acceptable s n set → Step s (run.request n set) (opened s n set)
  fails : {i k : ℕ} → Waiting s i → Step s (run.result_call k i 0) (answering s i s.bits s.apart)
  succeeds : {i k : ℕ} → k ≡ present_issue s → Waiting s i → held_allowed (code_at s.set i) (bit s.bits) ≡ true → Step s (run.result_call k i 1) (answering s i (following s i) s.apart)
  sticks : {i k : ℕ} → k ≡ present_issue s → Waiting s i → Step s (run.result_call k i 2) (answering s i s.bits (apart_with s i))
  drives : {e : ℕ} → Drivable s (read_event e) → Step s (run.event e) (holding s (after_as (read_event e) s.bits))
  tells : Step s run.ask s

-- ---- every call but an image does

-- a call that is no image
abbrev Plain : Call → Type 0
Plain c = NoImages (c ∷ [])

-- the station that an outcome leaves
abbrev station_of : Outcome → Station
station_of o = o.station

module _ (s : Station) where
  leads : {c : Call} {t : Station} → station_after s c ≡ t → Step s c t → Step s c (station_after s c)
  leads {c} e p = subst (Step s c) (sym e) p

  -- taken or refused
  by_answer : (c : Call) → (answer_number s c ≡ 0 → Step s c (station_after s c)) → Step s c (station_after s c)
  by_answer c f = split (eqb (answer_number s c) 0)
      (λ t. f (eqb-true (answer_number s c) 0 t))
      (λ t. let n = eqb-false (answer_number s c) 0 t in leads (untouched s c n) (refuses n))

  result_step : (k i ending : ℕ) → answer_number s (run.result_call k i ending) ≡ 0 → Step s (run.result_call k i ending) (station_after s (run.result_call k i ending))
  result_step k i zero e = let (p, w) = failure_has s k i e in leads (ap station_of (failure_is s k i p w)) (fails w)
  result_step k i (suc zero) e = let (p, w) = success_has s k i e in leads (ap station_of (success_is s k i p w)) (succeeds p w (waits_allowed s i w))
  result_step k i (suc (suc zero)) e = let (p, w) = stuck_has s k i e in leads (ap station_of (stuck_is s k i p w)) (sticks p w)
  result_step k i (suc (suc (suc n))) e = absurd (omega (arith, ending_has s (record { issue = k; number = i; ending = suc (suc (suc n)) }) e))

  pub asked : station_after s run.ask ≡ s
  unfolding station.ask
  asked = go (fit s)
    where
      go : (t : Bool) → (cond t (taken s) (refused s Unfit)).station ≡ s
      go true = refl
      go false = refl

  pub steps : (c : Call) → Plain c → Step s c (station_after s c)
  steps (run.request n set) p = by_answer _ (λ e. let A = request_has s n set e in leads (ap station_of (request_is s n set A)) (opens A))
  steps (run.reports r) p = by_answer _ (result_step r.issue r.number r.ending)
  steps (run.event e) p = by_answer _ (λ z. let d = event_has s e z in leads (ap station_of (event_is s e d)) (drives d))
  steps (run.pictures x) p = absurd p
  steps run.ask p = leads asked tells

-- ---- what each step keeps, all keep

-- a list of such calls is one, and a list of the rest
pub parts : (c : Call) (l : List Call) → NoImages (c ∷ l) → Plain c × NoImages l
parts (run.request n set) l p = (tt, p)
parts (run.reports r) l p = (tt, p)
parts (run.event e) l p = (tt, p)
parts (run.pictures x) l p = absurd p
parts run.ask l p = (tt, p)

pub along : (Q : Station → Type 0) → ((s t : Station) (c : Call) → Step s c t → Q s → Q t) → (l : List Call) → NoImages l → (s : Station) → Q s → Q (calls s l)
along Q f [] p s q = q
along Q f (c ∷ l) p s q = let (a, b) = parts c l p in along Q f l b (station_after s c) (f s (station_after s c) c (steps s c a) q)

-- and so has a station that is reached
pub reached : (Q : Station → Type 0) → ((s t : Station) (c : Call) → Step s c t → Q s → Q t) → ((s : Station) → Begins s → Q s) → (s : Station) → Reached s → Q s
reached Q f g s R = rw R.here (along Q f R.since R.no_images R.origin (g R.origin R.begins))
