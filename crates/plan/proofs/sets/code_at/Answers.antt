-- `plan::sets::code_at` meets its contract: its five bytes. Assumes nothing.
use Rattle.plan.proofs.Parts.{code_so}
use Rattle.plan.proofs.sets.code_at.Goals as goal

pub returns : goal.returns
returns c =
    code_so _ _ c.byte.ensures c.byte-2.ensures
    c.byte-3.ensures c.byte-4.ensures c.byte-5.ensures
