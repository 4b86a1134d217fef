use Rattle.wire.specs.Reads.{read_asked}
use mathlib.Core.Path.{◌∙◌}
use Rattle.wire.proofs.read_asked.Goals as goal

pub returns-in-Cut : goal.returns-in-Cut
unfolding read_asked
returns-in-Cut c = c.refused.ensures ∙ rw (← c.framed.ensures, c.in-Cut.is)

pub returns-in-Wrong : goal.returns-in-Wrong
unfolding read_asked
returns-in-Wrong c = c.refused-in-Wrong.ensures ∙ rw (← c.framed.ensures, c.in-Wrong.is)

pub returns-in-Whole : goal.returns-in-Whole
unfolding read_asked
returns-in-Whole c = c.whole_asked.ensures ∙ rw (← c.framed.ensures, c.in-Whole.is)
