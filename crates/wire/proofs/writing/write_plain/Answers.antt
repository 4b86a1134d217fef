use Rattle.wire.proofs.Room.{out_of_range, plain_written, as_told}
use lib.Seq.{length-take-le}
use mathlib.Core.Path.{◌∙◌, refl, sym}
use Rattle.wire.proofs.writing.write_plain.Goals as goal

pub slice_bounds-put-end : goal.slice_bounds-put-end
slice_bounds-put-end c = sym (length-take-le _ _ c.bytes_of-m.ensures.0)

pub returns-then-in_range : goal.returns-then-in_range
returns-then-in_range c =
    let a = c.args in
    let fine = sym c.in_range.ensures ∙ c.if-in_range.true in
    as_told (plain_written a.what a.room.now fine c.bytes_of-m.ensures.1) c.put.ensures

pub returns : goal.returns
returns c =
    let outside = sym c.in_range.ensures ∙ c.if-in_range.false in
    as_told (out_of_range _ c.args.room.now outside) (refl, refl)
