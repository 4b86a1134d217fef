-- What the desk tells of itself is what its calls go by. Assumes nothing.
use mathlib.Core.Path.{◌≡◌, refl, ap}
use mathlib.Core.Logic.{◌↔◌}
use Prim.Native.Nat.{ℕ, zero, suc, ◌<◌}
use native.Mathlib.Omega.{arith}
use Rattle.answers.specs.Answers.{number_of}
use Rattle.station.specs.declared.Station.{Station}
use Rattle.station.specs.declared.Outcome.{Outcome}
use Rattle.station.specs.Station.{present_issue}
use Rattle.station_laws.specs.Runs as run
use Rattle.station_laws.specs.AnswersRight.{Waiting}
use Rattle.station_laws.proofs.Calls.{success_has, success_is, failure_has, failure_is, stuck_has, stuck_is}
use Rattle.std.specs.declared.result.Result.TheVariants.{Ok}
use Rattle.desk.specs.Lines.{outstanding}
use Rattle.desk_laws.specs.Runs as desk
use Rattle.desk_laws.specs.Facts.{OutstandingTold}
use Rattle.desk_laws.proofs.Calls.{fit_parts, answered}

-- a result is accepted exactly if it is of the present set and its instruction waits
result_exactly : (s : Station) (k i ending : ℕ) → ending < 3
    → (run.answer_number s (run.result_call k i ending) ≡ 0) ↔ ((k ≡ present_issue s) × Waiting s i)
result_exactly s k i zero h = (failure_has s k i, λ w. ap (λ (o : Outcome). number_of o.answer) (failure_is s k i w.0 w.1))
result_exactly s k i (suc zero) h = (success_has s k i, λ w. ap (λ (o : Outcome). number_of o.answer) (success_is s k i w.0 w.1))
result_exactly s k i (suc (suc zero)) h = (stuck_has s k i, λ w. ap (λ (o : Outcome). number_of o.answer) (stuck_is s k i w.0 w.1))
result_exactly s k i (suc (suc (suc n))) h = absurd (omega arith)

pub outstanding_told : OutstandingTold
unfolding outstanding
outstanding_told d f k i ending h =
    let s = d.station in
    let c = desk.reports (record { issue = k; number = i; ending = ending }) in
    let exactly = result_exactly s k i ending h in (
      λ e. let (q, w) = exactly.0 ((answered d c (Ok tt)).0 e).0.1 in (q, w.1, w.2),
      λ w. (answered d c (Ok tt)).1 ((f, exactly.1 (w.0, ((fit_parts d f).0, w.1, w.2))), refl),
    )
