use Rattle.wire.proofs.Parts.{set_short, first_forty, set_long}
use native.Mathlib.Omega.{arith}
use mathlib.Core.Path.{◌∙◌, sym}
use Rattle.wire.proofs.set_of.Goals as goal

pub slice_bounds-held-end : goal.slice_bounds-held-end
slice_bounds-held-end c = sym (first_forty c.args.s.now c.if-s-gt40.true)

pub held-requires : goal.held-requires
held-requires c = rw (first_forty _ c.if-s-gt40.true) (omega arith)

pub returns-then-s-gt40 : goal.returns-then-s-gt40
returns-then-s-gt40 c = c.held.ensures ∙ set_long c.args.s.now c.if-s-gt40.true

pub returns : goal.returns
returns c = c.held-2.ensures ∙ sym (set_short c.args.s.now c.if-s-gt40.false)
