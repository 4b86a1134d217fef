-- `cards::known` meets its contract: one element is the number (proofs/Seeking.antt). Assumes nothing.
use mathlib.Core.Path.{ap, ◌∙◌}
use Prim.Native.Nat.{ℕ}
use lib.Dec.{eqb}
use lib.ListN.{get_or}
use Rattle.std.specs.Option.{is_some}
use Rattle.bits.specs.Search.{some}
use Rattle.cards.specs.Held.{is_known}
use Rattle.cards.proofs.Seeking.{found_in}
use Rattle.cards.proofs.known.Goals as goal

pub returns : goal.returns
unfolding is_known
returns c =
    let a = c.args in
    c.is_some.ensures ∙ ap is_some c.first.ensures ∙ found_in (λ x. eqb x a.c) a.n
    ∙ ap (λ (m : ℕ). some m (λ i. eqb (get_or a.n i 0) a.c)) c.well_formed.0.1.0.1
