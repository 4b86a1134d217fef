-- The promises: how the input is cut stands in Pieces; the rest is what totals promise of all that happens, said of a week. Assumes nothing.
use mathlib.Core.Path.{refl}
use Rattle.station.specs.Station.{start_of}
use Rattle.totals.specs.Totals.{counted_all}
use Rattle.totals.proofs.Promises.{totals_right, most_cars_right, full_stops}
use Rattle.week.specs.Weeks.{happenings_for, happenings}
use Rattle.week.specs.Promises.{NoInputNoWeek, WeekCutAnywhere, WeekTotalsRight, WeekMostCars, WeekFullStops}
use Rattle.week.proofs.Pieces as pieces

pub no_input_no_week : NoInputNoWeek
unfolding happenings_for counted_all
no_input_no_week = refl

pub week_cut_anywhere : WeekCutAnywhere
week_cut_anywhere = pieces.week_cut_anywhere

pub week_totals_right : WeekTotalsRight
week_totals_right input = totals_right (happenings start_of input)

pub week_most_cars : WeekMostCars
week_most_cars input = most_cars_right (happenings start_of input)

pub week_full_stops : WeekFullStops
week_full_stops input = full_stops (happenings start_of input)
