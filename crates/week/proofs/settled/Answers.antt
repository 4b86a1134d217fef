-- `week::settled` meets its contract: the reply where nothing is judged, taken or refused. Assumes nothing.
use mathlib.Core.Path.{refl, sym, ◌∙◌}
use Rattle.wire.proofs.Parts.{two_at}
use Rattle.week.proofs.Telling.{told_result}
use Rattle.week.proofs.Results.{result_kind_lem, settled_reply}
use Rattle.week.proofs.Steps.{still_sound, step_taken, step_refused}
use Rattle.week.proofs.settled.Goals as goal

pub cars_after-cars-requires : goal.cars_after-cars-requires
cars_after-cars-requires c = (
  c.requires.1,
  still_sound c.args.s c.args.m.now (sym c.requires.0)
      (settled_reply c.args.m.now c.requires.2 c.args.s c.requires.0 (c.word-issue.ensures ∙ two_at c.args.m.now 4 c.byte.ensures c.byte-2.ensures) c.byte-number.ensures c.byte-ending.ensures c.settled-t.ensures c.after.ensures),
)

pub returns-then-answer-eq0 : goal.returns-then-answer-eq0
returns-then-answer-eq0 c =
    let a = c.args in
    step_taken a.s a.m.now (sym c.requires.0)
    (settled_reply c.args.m.now c.requires.2 c.args.s c.requires.0 (c.word-issue.ensures ∙ two_at c.args.m.now 4 c.byte.ensures c.byte-2.ensures) c.byte-number.ensures c.byte-ending.ensures c.settled-t.ensures c.after.ensures)
    _ (result_kind_lem a.m.now c.requires.2) refl c.number-answer.ensures c.cars_after-cars.ensures c.if-answer-eq0.true
    (told_result a.s a.m.now _ _ _ refl c.op_at.ensures c.byte-number.ensures c.byte-ending.ensures)

pub returns : goal.returns
returns c =
    let a = c.args in
    step_refused a.s a.m.now (sym c.requires.0)
    (settled_reply c.args.m.now c.requires.2 c.args.s c.requires.0 (c.word-issue.ensures ∙ two_at c.args.m.now 4 c.byte.ensures c.byte-2.ensures) c.byte-number.ensures c.byte-ending.ensures c.settled-t.ensures c.after.ensures)
    _ (result_kind_lem a.m.now c.requires.2) refl c.number-answer.ensures c.cars_after-cars.ensures c.if-answer-eq0.false
