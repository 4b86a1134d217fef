-- `journal_program::older::end_of` meets its contract. Assumes nothing.
use Rattle.std.proofs.Common.{refl}
use Rattle.bits.proofs.Cases.{clash}
use Rattle.journal_program.proofs.older.end_of.Goals as goal

pub returns : goal.returns
returns c = (λ o. clash refl o, λ o. c.requires)
