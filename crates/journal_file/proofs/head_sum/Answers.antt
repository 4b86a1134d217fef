use mathlib.Core.Path.{ap, ap₂}
use Prim.Native.Nat.{ℕ}
use Rattle.checksum.specs.Slices.{crc_by}
use mathlib.Core.Path.{◌∙◌}
use Rattle.journal_file.proofs.head_sum.Goals as goal

pub returns : goal.returns
returns c =
    let x = c.args in
    let over = crc_by x.t.now in
    c.continue_by-2.ensures
    ∙ ap₂ over (c.continue_by-named.ensures ∙ ap (λ (n : ℕ). over n x.name.now) (c.continue_by.ensures ∙ ap (over 0) c.title-title.ensures)) c.station_bytes-bytes.ensures
