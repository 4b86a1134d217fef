-- `engine::next` meets its contract: each variant by its row, the lift by itself. Assumes nothing.
use Rattle.engine.proofs.Ruling.{belts_in, shuttles_in, belts_move_lem, shuttles_move_lem, tilt_move_lem}
use Rattle.engine.proofs.Answers.{rotated}
use Rattle.rules.specs.Rules.{well_formed, next_record}
use Rattle.bits.proofs.Cases.{true→T}
use Rattle.bits.specs.Bits.{bit, image}
use mathlib.Core.Path.{sym, ap, ◌∙◌}
use borrow.Author.Rules.{rules}
use Rattle.engine.proofs.next.Goals as goal

pub belts_next-requires : goal.belts_next-requires
belts_next-requires c = (belts_in c.args.i c.requires.0 c.in-Belts.is).1

pub shuttles_next-requires : goal.shuttles_next-requires
shuttles_next-requires c = (shuttles_in c.args.i c.requires.0 c.in-Shuttles.is).3

pub lift_next-requires : goal.lift_next-requires
lift_next-requires c = true→T (ap well_formed (sym c.in-Lift.is) ∙ c.requires.0)

pub returns-in-Belts : goal.returns-in-Belts
returns-in-Belts c = belts_move_lem c.args.i c.args.r c.args.a c.requires.0 c.requires.2 c.requires.1 c.belts_next.result (search rules) c.in-Belts.is c.belts_next.ensures

pub returns-in-Shuttles : goal.returns-in-Shuttles
returns-in-Shuttles c = shuttles_move_lem c.args.i c.args.r c.args.a c.requires.0 c.requires.2 c.requires.1 c.shuttles_next.result (search rules) c.in-Shuttles.is c.shuttles_next.ensures

pub returns-in-Tilt : goal.returns-in-Tilt
returns-in-Tilt c = tilt_move_lem c.args.i c.args.r c.args.a c.requires.0 c.requires.2 c.requires.1 c.tilt_next.result (search rules) c.in-Tilt.is c.tilt_next.ensures

pub returns-in-Lift : goal.returns-in-Lift
returns-in-Lift c = c.lift_next.ensures ∙ ap (λ i. image (next_record i (bit c.args.r))) (sym c.in-Lift.is)

pub returns-in-Rotate : goal.returns-in-Rotate
returns-in-Rotate c = rotated c.args.i c.in-Rotate.is c.args.r (search rules)
