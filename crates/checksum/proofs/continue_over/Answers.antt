use mathlib.Core.Path.{ap, ◌∙◌}
use mathlib.Core.List.{List}
use Prim.Native.Nat.{ℕ}
use native.Mathlib.Omega.{arith}
use Rattle.checksum.specs.Checksum.{inverted, crc_over}
use Rattle.checksum.specs.Slices.{crc_by}
use Rattle.checksum.proofs.Promises.{by_slices}
use borrow.Author.Rules.{rules}
use Rattle.checksum.proofs.continue_over.Goals as goal

pub returns-then-bytes-lt192 : goal.returns-then-bytes-lt192
unfolding crc_over
returns-then-bytes-lt192 c = ap inverted c.over_short.ensures

pub returns : goal.returns
returns c =
    let x = c.args in
    let known = c.shared_slice_known-1.given in
    c.continue_by.ensures ∙ ap (λ (t : List ℕ). crc_by t x.c x.bytes.now) c.tables-t.ensures
    ∙ by_slices x.c x.bytes.now (search rules) (λ i. omega (arith, known i))
