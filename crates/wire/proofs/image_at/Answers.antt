use mathlib.Core.Path.{◌∙◌}
use Rattle.wire.proofs.Parts.{eight_at}
use Rattle.wire.proofs.image_at.Goals as goal

pub returns : goal.returns
returns c =
    let a = c.args in
    c.from_le_bytes.ensures
    ∙ eight_at a.s.now a.i c.byte.ensures c.byte-2.ensures c.byte-3.ensures c.byte-4.ensures c.byte-5.ensures c.byte-6.ensures c.byte-7.ensures c.byte-8.ensures
