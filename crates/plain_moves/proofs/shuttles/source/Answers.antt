-- `plain_moves::shuttles::source` meets its contract: each return is one case of the definition (proofs/Finding.antt). Assumes nothing.
use mathlib.Core.Path.{sym, ◌∙◌}
use Rattle.plain_moves.proofs.Finding.{comes_from, leaves, stays_there}
use Rattle.plain_moves.proofs.shuttles.source.Goals as goal

pub returns-then-named : goal.returns-then-named
returns-then-named c =
    let a = c.args in
    comes_from a.mask a.toward a.row c.behind-back.ensures (sym c.named.ensures ∙ c.if-named.true)

pub returns-then-named-2 : goal.returns-then-named-2
returns-then-named-2 c =
    let a = c.args in
    leaves a.mask a.toward a.row c.behind-back.ensures (sym c.named.ensures ∙ c.if-named.false)
    (sym c.named-2.ensures ∙ c.if-named-2.true)

pub returns : goal.returns
returns c =
    let a = c.args in
    stays_there a.mask a.toward a.row c.behind-back.ensures (sym c.named.ensures ∙ c.if-named.false)
    (sym c.named-2.ensures ∙ c.if-named-2.false)
