-- `plan_c::plan_explain` meets its contract: the room is too short, or the grounds are written. Assumes nothing.
use Rattle.plan_c.proofs.Explaining.{explain_short, explain_told}
use Rattle.plan_c.proofs.plan_explain.Goals as goal

pub returns-then-told-ne0 : goal.returns-then-told-ne0
returns-then-told-ne0 c =
    explain_short _ _ c.explain-g.ensures c.grounds_bytes-b.ensures c.tell-told.ensures c.if-told-ne0.true

pub returns : goal.returns
returns c =
    explain_told _ _ c.explain-g.ensures c.grounds_bytes-b.ensures c.tell-told.ensures c.if-told-ne0.false c.said.ensures
