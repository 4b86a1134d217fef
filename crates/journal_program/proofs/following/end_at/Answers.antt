-- `journal_program::following::end_at` meets its contract. Assumes nothing.
use Rattle.std.proofs.Common.{refl}
use Rattle.bits.proofs.Cases.{clash}
use Rattle.journal_program.proofs.following.end_at.Goals as goal

pub returns : goal.returns
returns c = (λ o. c.requires, λ o. clash o refl)
