-- `plain::walks::noted` meets its contract: each return is one case. Assumes nothing.
use Rattle.plain.proofs.Walking.{none_noted, one_noted}
use Rattle.plain.proofs.walks.noted.Goals as goal

pub returns-then-not-begins : goal.returns-then-not-begins
returns-then-not-begins c = none_noted c.args.w c.args.begins c.args.place c.if-not-begins.true-raw

pub returns : goal.returns
returns c = one_noted c.args.w c.args.begins c.args.place c.if-not-begins.false-raw
