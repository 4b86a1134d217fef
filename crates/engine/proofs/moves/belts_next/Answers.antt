-- `engine::moves::belts_next` meets its contract: what stays, and what is shifted, by the direction. Assumes nothing.
use lib.Bits.{bit_and}
use mathlib.Core.Path.{ap₂, ◌∙◌}
use native.Mathlib.Omega.{arith}
use Rattle.rows.specs.Private.{shifted}
use Rattle.engine.proofs.Masking.{lower_shifts, higher_shifts, step_small, belts_moved}
use Rattle.engine.proofs.moves.belts_next.Goals as goal

pub within-requires : goal.within-requires
within-requires c = (c.requires, omega (arith, c.step-n.ensures, step_small c.args.row c.args.size))

pub shifted-requires : goal.shifted-requires
shifted-requires c = (omega arith, omega (arith, c.step-n.ensures, step_small c.args.row c.args.size))

pub returns-then-toward-eq0 : goal.returns-then-toward-eq0
returns-then-toward-eq0 c = let a = c.args in let n = c.step-n.result in let h = lower_shifts a.toward n c.if-toward-eq0.true in belts_moved a.r a.a a.row a.toward a.size n c.within.result c.shifted.result c.step-n.ensures c.within.ensures (c.shifted.ensures ∙ ap₂ (shifted (bit_and a.r c.within.result)) h.0 h.1)

pub shifted-requires-2 : goal.shifted-requires-2
shifted-requires-2 c = (omega (arith, c.step-n.ensures, step_small c.args.row c.args.size), omega arith)

pub returns : goal.returns
returns c = let a = c.args in let n = c.step-n.result in let h = higher_shifts a.toward n (omega arith) in belts_moved a.r a.a a.row a.toward a.size n c.within.result c.shifted-2.result c.step-n.ensures c.within.ensures (c.shifted-2.ensures ∙ ap₂ (shifted (bit_and a.r c.within.result)) h.0 h.1)
