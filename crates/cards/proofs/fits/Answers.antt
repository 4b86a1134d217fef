-- `cards::fits` meets its contract: the two tests (proofs/Seeking.antt). Assumes nothing.
use mathlib.Core.Path.{ap, ap₂, ◌∙◌}
use mathlib.Core.Bool.{not, ◌&&◌}
use Prim.Native.Nat.{ℕ}
use Rattle.bits.specs.Search.{some}
use Rattle.cards.specs.Private.{stand_right, repeats}
use Rattle.cards.proofs.Seeking.{fit_is}
use Rattle.cards.proofs.fits.Goals as goal

pub returns : goal.returns
returns c = let a = c.args in
    ap₂ ◌&&◌ c.stand_right.ensures (ap not c.one_repeats.ensures)
    ∙ ap (λ (m : ℕ). stand_right a.r a.n && not (some m (repeats a.n))) c.well_formed.1.0.1.0.1
    ∙ fit_is a.r a.n
