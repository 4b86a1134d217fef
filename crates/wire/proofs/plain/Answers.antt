use Rattle.wire.proofs.plain.Goals as goal

pub returns : goal.returns
returns c = rw c.unused-set.ensures
