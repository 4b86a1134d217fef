-- `engine::judging::within` meets its contract, by the direction. Assumes nothing.
use native.Mathlib.Omega.{arith}
use lib.Bits.{bit_and}
use mathlib.Core.Path.{ap, ap₂, ◌∙◌}
use Rattle.rows.specs.Private.{shifted}
use Rattle.engine.proofs.Masking.{lower_shifts, higher_shifts}
use Rattle.engine.proofs.judging.within.Goals as goal

pub returns-then-toward-eq0 : goal.returns-then-toward-eq0
returns-then-toward-eq0 c = let a = c.args in let h = lower_shifts a.toward a.n c.if-toward-eq0.true in ap (bit_and a.span) (c.shifted.ensures ∙ ap₂ (shifted a.span) h.1 h.0)

pub returns : goal.returns
returns c = let a = c.args in let h = higher_shifts a.toward a.n (omega arith) in ap (bit_and a.span) (c.shifted-2.ensures ∙ ap₂ (shifted a.span) h.1 h.0)
