-- `week::count_all` meets its contract: each turn keeps `Midway`, and what is left of the input shrinks. Assumes nothing.
use Rattle.wire.specs.Reads.{frame_of}
use mathlib.Core.Bool.{not}
use mathlib.Core.Path.{◌≡◌, sym, ap, ◌∙◌}
use native.Mathlib.Omega.{arith}
use lib.ListN.{drop, length-drop}
use Rattle.station.specs.Station.{fit}
use Rattle.service.proofs.Called.{respond_fit}
use Rattle.wire.proofs.Parts.{from_on}
use Rattle.wire.proofs.Frames.{Framed, whole_frame}
use Rattle.week.specs.Private.{message_step}
use Rattle.week.specs.Weeks.{happened}
use Rattle.week.specs.declared.Step.{Step}
use Rattle.week.proofs.Counting.{started, same_held, cut_short_lem, wrong_length, one_full, counted_on}
use Rattle.week.proofs.Steps.{fit_sound, step_cars}
use Rattle.week.proofs.count_all.Goals as goal
use Rattle.week.proofs.count_all.Goals.{After-framed, In-Whole}

-- the frame that the call found is that of what is left
found : (c : After-framed)
    → frame_of (drop c.loop-counts.at c.args.input.now) ≡ c.framed.result
found c =
    sym (ap frame_of (from_on c.args.input.now c.loop-counts.at))
    ∙ sym c.framed.ensures

-- and a whole message lies within it
whole : (c : In-Whole)
    → Framed (drop c.loop-counts.at c.args.input.now) c.in-Whole.n
whole c = whole_frame _ _ (sym (ap frame_of (from_on c.args.input.now c.loop-counts.at)) ∙ sym c.framed.ensures ∙ c.in-Whole.is)

pub cars_now-cars-requires : goal.cars_now-cars-requires
cars_now-cars-requires c = fit_sound _ c.fit-known.ensures

pub loop-counts-init : goal.loop-counts-init
loop-counts-init c = (started _ _ _, c.fit-known.ensures, c.cars_now-cars.ensures)

pub returns-in-Cut : goal.returns-in-Cut
returns-in-Cut c = cut_short_lem c.loop-counts.invariant.0 (found (goal.at.returns-in-Cut c).After-framed ∙ c.in-Cut.is)

pub returns-in-Wrong : goal.returns-in-Wrong
returns-in-Wrong c = wrong_length c.loop-counts.invariant.0 (same_held _ (ap (happened c.loop-counts.s) (from_on _ c.loop-counts.at)) c.count_message-full.ensures) (found (goal.at.returns-in-Wrong c).After-framed ∙ c.in-Wrong.is)

pub seen-x-requires : goal.seen-x-requires
seen-x-requires c = (c.loop-counts.invariant.1, c.loop-counts.invariant.2)

pub returns-then-is_some : goal.returns-then-is_some
returns-then-is_some c = one_full c.loop-counts.invariant.0 (same_held _ (ap (λ (x : Step). x.happened) (c.seen-x.ensures ∙ ap (message_step c.loop-counts.s) (from_on _ c.loop-counts.at))) c.count_at-full.ensures) _ (found (goal.at.returns-then-is_some c).After-framed ∙ c.in-Whole.is) (ap not (sym c.if-is_some.ensures))

pub overflow_add-at : goal.overflow_add-at
overflow_add-at c = omega (arith, (whole (goal.at.overflow_add-at c).In-Whole).within, length-drop c.loop-counts.at c.args.input.now)

pub loop-counts-smaller : goal.loop-counts-smaller
loop-counts-smaller c = omega (arith, (whole (goal.at.loop-counts-smaller c).In-Whole).within, (whole (goal.at.loop-counts-smaller c).In-Whole).low, length-drop c.loop-counts.at c.args.input.now)

pub loop-counts-preserved : goal.loop-counts-preserved
loop-counts-preserved c = let heard = c.seen-x.ensures ∙ ap (message_step c.loop-counts.s) (from_on _ c.loop-counts.at) in (
  counted_on c.loop-counts.invariant.0 (same_held _ (ap (λ (x : Step). x.happened) heard) c.count_at-full.ensures) _ (ap (λ (x : Step). x.station) heard) (found (goal.at.loop-counts-preserved c).After-framed ∙ c.in-Whole.is) (ap not (sym c.if-is_some.ensures)),
  c.loop-counts.invariant.1 ∙ sym (ap (λ (x : Step). fit x.station) heard ∙ respond_fit _ _),
  step_cars c.loop-counts.s _ heard,
)
