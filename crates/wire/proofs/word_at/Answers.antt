use mathlib.Core.Path.{◌∙◌}
use Rattle.wire.proofs.Parts.{two_at}
use Rattle.wire.proofs.word_at.Goals as goal

pub returns : goal.returns
returns c =
    let a = c.args in
    c.word.ensures ∙ two_at a.s.now a.i c.byte-low.ensures c.byte-high.ensures
