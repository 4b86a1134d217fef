-- `cards::repeats` meets its contract: a search among those before it (proofs/Seeking.antt). Assumes nothing.
use mathlib.Core.Path.{ap, ◌∙◌}
use Rattle.std.specs.Option.{is_some}
use Rattle.cards.proofs.Seeking.{repeats_is}
use Rattle.cards.proofs.repeats.Goals as goal

pub returns-then-ns-j-ne0 : goal.returns-then-ns-j-ne0
returns-then-ns-j-ne0 c = let a = c.args in repeats_is a.ns.now a.j c.if-ns-j-ne0.true c.requires (c.is_some.ensures ∙ ap is_some c.first.ensures)
