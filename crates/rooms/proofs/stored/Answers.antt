-- `rooms::stored` meets its contract: each part is put in its place. Assumes nothing.
use mathlib.Core.Path.{◌∙◌}
use native.Mathlib.Omega.{arith}
use Rattle.codec.proofs.LittleEndian.{two_laid}
use Rattle.wire.proofs.Parts.{set_filled}
use Rattle.rooms.proofs.Bytes.{laid_out}
use borrow.Author.Rules.{rules}
use Rattle.rooms.proofs.stored.Goals as goal

pub returns : goal.returns
returns c =
    let a = c.args in
    laid_out (record { bits = a.bits; count = a.count; answered = a.answered; set = a.set; next = a.next; apart = a.apart }) _ _ c.copy-3.new.room _ _ _ _ c.image_bytes-2.ensures (c.copy-4.ensures.all (search rules)).1
    (set_filled a.set _ (omega arith) (c.copy-3.ensures.all (search rules)).1)
    (c.to_le_bytes.ensures ∙ two_laid a.next) (c.copy-2.ensures.all (search rules)).1
    c.image_bytes.ensures (c.copy.ensures.all (search rules)).1
