use Rattle.wire.specs.Reads.{is_bad, bad_in}
use Rattle.wire.proofs.Parts.{at_five}
use Rattle.bits.proofs.Least.{start, turn, here, past}
use Rattle.rules.specs.Codes.{read_bytes}
use lib.ListN.{drop}
use mathlib.Core.Path.{◌≡◌, ◌∙◌, sym, ap}
use native.Mathlib.Omega.{arith}
use Rattle.wire.proofs.kinds.least_bad.Goals as goal
use Rattle.wire.proofs.kinds.least_bad.Goals.{After-is_bad}

-- what the code found of the instruction is what stands at its place
seen : (c : After-is_bad)
    → c.is_bad.result ≡ bad_in (drop 5 c.args.m.now) c.loop-i.i
seen c =
    c.is_bad.ensures ∙ ap is_bad (c.read_bytes-one.ensures ∙ ap read_bytes (at_five c.args.m.now c.loop-i.i))

pub loop-i-init : goal.loop-i-init
loop-i-init c = start _ _

pub returns-then-is_bad : goal.returns-then-is_bad
returns-then-is_bad c = here c.loop-i.invariant (omega arith) (sym (seen (goal.at.returns-then-is_bad c).After-is_bad) ∙ c.if-is_bad.true)

pub loop-i-preserved : goal.loop-i-preserved
loop-i-preserved c = turn c.loop-i.invariant (omega arith) (sym (seen (goal.at.loop-i-preserved c).After-is_bad) ∙ c.if-is_bad.false)

pub returns : goal.returns
returns c = past c.loop-i.invariant (omega arith)
