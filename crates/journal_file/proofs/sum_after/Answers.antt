use mathlib.Core.Path.{ap}
use Prim.Native.Nat.{ℕ}
use Rattle.checksum.specs.Slices.{crc_by}
use mathlib.Core.Path.{◌∙◌}
use Rattle.journal_file.proofs.sum_after.Goals as goal

pub returns : goal.returns
returns c =
    let x = c.args in
    let over = crc_by x.t.now in
    c.continue_by-2.ensures ∙ ap (λ (n : ℕ). over n x.bytes.now) (c.continue_by.ensures ∙ ap (over x.sum) c.title_of-title.ensures)
