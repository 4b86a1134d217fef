-- `station::Station::ended` meets its contract: done, stuck or failed. Assumes nothing.
use Rattle.std.proofs.Common.{ap, ◌∙◌, eq-eqb, ne_eqb}
use Rattle.rules.specs.declared.Code.{Code}
use Rattle.engine.specs.Judged.{code_next}
use Rattle.station.proofs.Settling.{done_as, stuck_as, failed_as}
use Rattle.station.proofs.Station.ended.Goals as goal

pub returns-then-ending-eq1 : goal.returns-then-ending-eq1
returns-then-ending-eq1 c = let a = c.args in c.answering.ensures ∙ done_as a.self a.i a.ending (eq-eqb _ _ c.if-ending-eq1.true) (c.code_next.ensures ∙ ap (λ (x : Code). code_next x a.self.bits) c.code_at-x.ensures)

pub returns-then-ending-eq2 : goal.returns-then-ending-eq2
returns-then-ending-eq2 c = let a = c.args in c.answering-then-ending-eq2.ensures ∙ rw (c.parts.ensures, c.code_at-x.ensures) (stuck_as a.self a.i a.ending (ne_eqb _ _ c.if-ending-eq1.false) (eq-eqb _ _ c.if-ending-eq2.true))

pub returns : goal.returns
returns c = let a = c.args in c.answering-2.ensures ∙ failed_as a.self a.i a.ending (ne_eqb _ _ c.if-ending-eq1.false) (ne_eqb _ _ c.if-ending-eq2.false)
