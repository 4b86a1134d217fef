-- The three demands of specs/AlwaysAnswers.antt, AnswersRight.antt and SafeInAnyOrder.antt, kept. Assumes nothing.
use mathlib.Core.Path.{refl, ap, ◌∙◌}
use Prim.Native.Nat.{ℕ}
use Rattle.floor.proofs.Promises.{sound_exactly}
use Rattle.answers.specs.Answers.{number_of}
use Rattle.station.specs.declared.Station.{Station}
use Rattle.station.specs.declared.Outcome.{Outcome}
use Rattle.station_laws.specs.Runs as run
use Rattle.station_laws.specs.Runs.{call}
use Rattle.station_laws.specs.AlwaysAnswers.{RefusedUntouched, CallsInTable}
use Rattle.station_laws.specs.AnswersRight.{AcceptedExactly, ReasonExactly, ResultRecord, FailureKeeps, StuckSetsApart, LateExactly, IssuesInTurn, FirstIsZero, ImageKeepsCount, BehindCounts, EventRecord, ImageTaken, AskKeeps, ResultTaken, EventTaken, EventRefused, LiftRefused, ApartRefused, EndTaken, NobodyMovesTheLift, LiftHeldSinceBegin, OnlySuccessChanges, OnlyStuckSetsApart, PlacesRight, PlacesElse, PlacesInRange}
use Rattle.station_laws.specs.SafeInAnyOrder.{AlwaysLaidOut, CarsCounted, AnyOrder, OrdersExist, AmidUnmoved, AnyOrderAmid, AmidExists, AmidCovers, FinishedAnyOrder, WaitsAnyway, NothingMeetsAJam, StillAllowed, FitStays, NeverUnfit}
use Rattle.station_laws.proofs.EachCall as each
use Rattle.station_laws.proofs.Calls.{request_has, request_is, success_has, success_is, failure_has, failure_is, stuck_has, stuck_is, answering_bits, answering_apart, image_has, image_is, ask_has, ask_is}
use Rattle.station_laws.proofs.Places as places
use Rattle.station_laws.proofs.Refusals as refusals
use Rattle.station_laws.proofs.Issues as issues
use Rattle.station_laws.proofs.Steps.{asked}
use Rattle.station_laws.proofs.Changes as changes
use Rattle.station_laws.proofs.Always as always
use Rattle.station_laws.proofs.Jammed as jammed
use Rattle.station_laws.proofs.Spared as spared
use Rattle.station_laws.proofs.Drivers as drivers
use Rattle.station_laws.proofs.Lists as lists
use Rattle.station_laws.proofs.AnyOrder as orders
use Rattle.station_laws.proofs.Amid as amid

-- the parts of an outcome
abbrev number : Outcome → ℕ
number o = number_of o.answer

abbrev rest : Outcome → Station
rest o = o.station

-- ---- 1. It always answers

pub refused_untouched : RefusedUntouched
refused_untouched = each.untouched

pub calls_in_table : CallsInTable
calls_in_table s c = ((call s c).answer, refl)

-- ---- 2. It answers right

pub accepted_exactly : AcceptedExactly
accepted_exactly s n set = ((request_has s n set, λ A. ap number (request_is s n set A)), λ A. ap rest (request_is s n set A))

pub reason_exactly : ReasonExactly
reason_exactly = refusals.reason_exactly

pub result_record : ResultRecord
result_record s k i = (
  (success_has s k i, λ w. ap number (success_is s k i w.0 w.1)),
  λ e. let (q, w) = success_has s k i e in let p = ap rest (success_is s k i q w) in (p, ap (λ (t : Station). t.bits) p ∙ answering_bits s i _ _),
)

pub failure_keeps : FailureKeeps
failure_keeps s k i = (
  (failure_has s k i, λ w. ap number (failure_is s k i w.0 w.1)),
  λ e. let (q, w) = failure_has s k i e in let p = ap rest (failure_is s k i q w) in (p, ap (λ (t : Station). t.bits) p ∙ answering_bits s i _ _),
)

pub stuck_sets_apart : StuckSetsApart
stuck_sets_apart s k i = (
  (stuck_has s k i, λ w. ap number (stuck_is s k i w.0 w.1)),
  λ e. let (q, w) = stuck_has s k i e in let p = ap rest (stuck_is s k i q w) in
      (p, ap (λ (t : Station). t.bits) p ∙ answering_bits s i _ _, ap (λ (t : Station). t.apart) p ∙ answering_apart s i _ _),
)

pub late_exactly : LateExactly
late_exactly = issues.late_exactly

pub issues_in_turn : IssuesInTurn
issues_in_turn = issues.issues_in_turn

pub first_is_zero : FirstIsZero
first_is_zero = issues.first_is_zero

pub image_keeps_count : ImageKeepsCount
image_keeps_count s r apart = (issues.in_turn s (run.image_call r apart)).1

pub behind_counts : BehindCounts
behind_counts = issues.behind_counts

pub event_record : EventRecord
event_record = drivers.event_record

pub event_refused : EventRefused
event_refused = drivers.event_refused

pub lift_refused : LiftRefused
lift_refused = drivers.lift_refused

pub apart_refused : ApartRefused
apart_refused = spared.apart_refused

pub end_taken : EndTaken
end_taken = drivers.end_taken

pub nobody_moves_the_lift : NobodyMovesTheLift
nobody_moves_the_lift = drivers.nobody_moves_the_lift

pub lift_held_since_begin : LiftHeldSinceBegin
lift_held_since_begin = drivers.lift_held_since_begin

pub image_taken : ImageTaken
image_taken s r apart = (
  (
    λ e. let w = image_has s r apart e in (w.0, w.1, (sound_exactly r).0 w.2, w.3),
    λ w. ap number (image_is s r apart (w.0, w.1, (sound_exactly r).1 w.2, w.3)),
  ),
  λ e. let p = ap rest (image_is s r apart (image_has s r apart e)) in (p, ap (λ (t : Station). t.apart) p),
)

pub ask_keeps : AskKeeps
ask_keeps s = ((ask_has s, λ f. ap number (ask_is s f)), asked s)

pub result_taken : ResultTaken
result_taken = changes.result_taken

pub event_taken : EventTaken
event_taken = changes.event_taken

pub only_success_changes : OnlySuccessChanges
only_success_changes = changes.only_success_changes

pub only_stuck_sets_apart : OnlyStuckSetsApart
only_stuck_sets_apart = changes.only_stuck_sets_apart

pub places_right : PlacesRight
places_right = places.places_right

pub places_else : PlacesElse
places_else = places.places_else

pub places_in_range : PlacesInRange
places_in_range = places.places_in_range

-- ---- 3. Sets are safe in any order

pub always_laid_out : AlwaysLaidOut
always_laid_out = jammed.always_laid_out

pub cars_counted : CarsCounted
cars_counted = jammed.cars_counted

pub any_order : AnyOrder
any_order = orders.any_order

pub orders_exist : OrdersExist
orders_exist = lists.orders_exist

pub amid_unmoved : AmidUnmoved
amid_unmoved = amid.amid_unmoved

pub any_order_amid : AnyOrderAmid
any_order_amid s r n set e fate events l m x y p q a b = amid.amid_alike a b (orders.any_order s r n set e fate events l m p q)

pub amid_exists : AmidExists
amid_exists = amid.amid_exists

pub amid_covers : AmidCovers
amid_covers = amid.amid_covers

pub finished_any_order : FinishedAnyOrder
finished_any_order = jammed.finished_any_order

pub waits_anyway : WaitsAnyway
waits_anyway = jammed.waits_anyway

pub nothing_meets_a_jam : NothingMeetsAJam
nothing_meets_a_jam = spared.nothing_meets_a_jam

pub still_allowed : StillAllowed
still_allowed = always.still_allowed

pub fit_stays : FitStays
fit_stays = always.fit_stays

pub never_unfit : NeverUnfit
never_unfit = always.never_unfit
