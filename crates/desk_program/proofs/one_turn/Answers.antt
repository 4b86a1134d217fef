-- `desk_program::one_turn` meets its contract. Assumes nothing.
use Rattle.desk_program.proofs.DeskTurning.{filled, over_held, over_read}
use Rattle.bits.proofs.Cases.{clash}
use Rattle.std.proofs.Common.{ap, ◌∙◌}
use Rattle.std.specs.declared.result.Result.TheVariants.{Ok}
use native.Mathlib.Omega.{arith}
use borrow.Author.Rules.{rules}
use Rattle.desk_program.proofs.one_turn.Goals as goal

pub answer-requires : goal.answer-requires
answer-requires c = ((c.requires.0 c.requires.1).0, c.requires.2)

pub returns-then-b : goal.returns-then-b
returns-then-b c = λ q. (c.answer.ensures.0, over_held c.args.b _ _ _ c.if-b.true c.answer.ensures.1)

pub answer-requires-in-Ok-Some : goal.answer-requires-in-Ok-Some
answer-requires-in-Ok-Some c = (omega (arith, filled _ _ _ _ _ c.read_on.ensures (c.in-Ok-Some.is ∙ ap Ok c.in-Ok-Some.field-0-is)), (search rules, search rules))

pub close-requires : goal.close-requires
close-requires c = let p = (c.requires.0 c.requires.1).0 in search rules

pub returns-in-Ok-Some : goal.returns-in-Ok-Some
returns-in-Ok-Some c = λ q. (c.answer-in-Ok-Some.ensures.0, over_read c.args.b _ _ _ _ _ c.if-b.false c.read_on.ensures (c.in-Ok-Some.is ∙ ap Ok c.in-Ok-Some.field-0-is) c.answer-in-Ok-Some.ensures.1)

pub returns-in-Ok-None : goal.returns-in-Ok-None
returns-in-Ok-None c = λ q. clash c.stopped.ensures q

pub returns-in-Err : goal.returns-in-Err
returns-in-Err c = λ q. clash c.stopped-in-Err.ensures q
