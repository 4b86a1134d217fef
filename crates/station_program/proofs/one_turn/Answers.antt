-- `station_program::one_turn` meets its contract: a read fills no more than the buffer. Assumes nothing.
use Rattle.std.proofs.Common.{ap, ◌∙◌, arith, rules}
use Rattle.std.specs.declared.result.Result.TheVariants.{Ok}
use Rattle.journal_keeper.proofs.Adding.{if_ok}
use Rattle.station_program.proofs.Turning.{filled, turned_over}
use Rattle.station_program.proofs.one_turn.Goals as goal

pub answer-requires : goal.answer-requires
answer-requires c = (omega (arith, filled _ _ _ _ _ c.read_on.ensures (c.in-Ok-Some.is ∙ ap Ok c.in-Ok-Some.field-0-is)), search rules, search rules, c.requires.2, c.requires.3)

pub close-requires : goal.close-requires
close-requires c = let pre = c.requires in (search rules, pre.2, pre.3)

pub returns-in-Ok-Some : goal.returns-in-Ok-Some
returns-in-Ok-Some c =
    if_ok c.answer.result c.answer.ensures
    (λ n a. (a.0, λ q. turned_over _ _ _ _ _ _ _ c.read_on.ensures (c.in-Ok-Some.is ∙ ap Ok c.in-Ok-Some.field-0-is) a.1))
