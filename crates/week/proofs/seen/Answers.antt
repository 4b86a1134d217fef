-- `week::seen` meets its contract: a result; taken, with what the bytes tell, or refused. Assumes nothing.
use mathlib.Core.Path.{refl, sym, ◌∙◌}
use Rattle.bits.proofs.Cases.{both}
use Rattle.week.proofs.Steps.{still_sound, step_taken, step_refused}
use Rattle.week.proofs.seen.Goals as goal

pub settled-requires : goal.settled-requires
settled-requires c = let (k, b) = both c.args.known c.brings_result.result c.if-known-brings_result.true in
    (sym c.requires.0 ∙ k, c.requires.1, sym c.brings_result.ensures ∙ b)

pub returns-then-known-brings_result : goal.returns-then-known-brings_result
returns-then-known-brings_result c = c.settled.ensures

pub cars_after-cars-requires : goal.cars_after-cars-requires
cars_after-cars-requires c = (c.requires.1, still_sound c.args.s c.args.m.now c.requires.0 c.respond_known-r.ensures)

pub returns-then-answer-eq0 : goal.returns-then-answer-eq0
returns-then-answer-eq0 c = let a = c.args in
    step_taken a.s a.m.now c.requires.0 c.respond_known-r.ensures _ c.kind_read-kind.ensures refl c.number_in-answer.ensures c.cars_after-cars.ensures c.if-answer-eq0.true c.told-t.ensures

pub returns : goal.returns
returns c = let a = c.args in
    step_refused a.s a.m.now c.requires.0 c.respond_known-r.ensures _ c.kind_read-kind.ensures refl c.number_in-answer.ensures c.cars_after-cars.ensures c.if-answer-eq0.false
