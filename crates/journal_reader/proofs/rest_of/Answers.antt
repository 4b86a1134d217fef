use Rattle.std.proofs.Common.{sym, ◌∙◌, eqb-true, eq-eqb}
use Rattle.bits.proofs.Cases.{clash}
use Rattle.journal_reader.proofs.Resting.{nothing_left, torn_left, damage_left}
use Rattle.journal_reader.proofs.rest_of.Goals as goal

pub returns-then-is_empty : goal.returns-then-is_empty
returns-then-is_empty c = nothing_left _ _ _ c.args.m.now (eqb-true _ 0 (sym c.is_empty.ensures ∙ c.if-is_empty.true))

pub returns-then-f-is_zeroed : goal.returns-then-f-is_zeroed
returns-then-f-is_zeroed c =
    torn_left _ _ _ c.args.m.now (λ z. clash (eq-eqb _ 0 z) (sym c.is_empty.ensures ∙ c.if-is_empty.false)) c.front_of-f.ensures c.is_zeroed.ensures c.if-f-is_zeroed.true

pub returns : goal.returns
returns c =
    damage_left _ _ _ c.args.m.now (λ z. clash (eq-eqb _ 0 z) (sym c.is_empty.ensures ∙ c.if-is_empty.false)) c.front_of-f.ensures c.is_zeroed.ensures c.if-f-is_zeroed.false
