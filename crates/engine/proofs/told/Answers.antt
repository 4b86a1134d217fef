-- `engine::told` meets its contract: each variant by its row, the lift by itself. Assumes nothing.
use Rattle.engine.proofs.Ruling.{shuttles_in, belts_judge, shuttles_judge, tilt_judge, rotate_judge}
use Rattle.rules.specs.Verdicts.{judged}
use Rattle.rules.specs.Rules.{well_formed, clauses}
use Rattle.bits.proofs.Cases.{true→T}
use Rattle.bits.specs.Bits.{bit}
use mathlib.Core.Path.{sym, ap, ◌∙◌}
use Rattle.engine.proofs.told.Goals as goal

pub belts_judged-requires : goal.belts_judged-requires
belts_judged-requires c = true→T (ap well_formed (sym c.in-Belts.is) ∙ c.requires.0)

pub shuttles_judged-requires : goal.shuttles_judged-requires
shuttles_judged-requires c = let b = shuttles_in c.args.i c.requires.0 c.in-Shuttles.is in (b.0, b.1, b.2)

pub returns-in-Belts : goal.returns-in-Belts
returns-in-Belts c = c.belts_judged.ensures ∙ belts_judge c.args.i c.args.r c.args.a c.requires.0 c.requires.1 c.in-Belts.is

pub returns-in-Shuttles : goal.returns-in-Shuttles
returns-in-Shuttles c = c.shuttles_judged.ensures ∙ shuttles_judge c.args.i c.args.r c.args.a c.requires.0 c.requires.1 c.in-Shuttles.is

pub returns-in-Tilt : goal.returns-in-Tilt
returns-in-Tilt c = c.tilt_judged.ensures ∙ tilt_judge c.args.i c.args.r c.args.a c.requires.0 c.requires.1 c.in-Tilt.is

pub returns-in-Lift : goal.returns-in-Lift
returns-in-Lift c = c.lift_judged.ensures ∙ ap (λ i. judged (clauses i) (bit c.args.r)) (sym c.in-Lift.is)

pub returns-in-Rotate : goal.returns-in-Rotate
returns-in-Rotate c = c.rotate_judged.ensures ∙ rotate_judge c.args.i c.args.r c.args.a c.requires.0 c.requires.1 c.in-Rotate.is
