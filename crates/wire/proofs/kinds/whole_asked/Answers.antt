use Rattle.wire.specs.Reads.{read_whole}
use borrow.Author.Tests.{eq-eqb, ne_eqb}
use mathlib.Core.Path.{◌∙◌}
use Rattle.wire.proofs.kinds.whole_asked.Goals as goal

pub returns-then-kind-eq1 : goal.returns-then-kind-eq1
unfolding read_whole
returns-then-kind-eq1 c = c.read_request.ensures ∙ rw (← c.word_at-kind.ensures, eq-eqb _ _ c.if-kind-eq1.true)

pub returns : goal.returns
unfolding read_whole
returns c = c.among.ensures ∙ rw (← c.word_at-kind.ensures, ne_eqb _ _ c.if-kind-eq1.false)
