use Rattle.wire.proofs.Room.{too_many, bad_one, all_good}
use lib.Seq.{length-take-le}
use mathlib.Core.Path.{◌∙◌, sym}
use native.Mathlib.Omega.{arith}
use Rattle.wire.proofs.writing.write_request.Goals as goal

pub returns-then-count-gt8 : goal.returns-then-count-gt8
returns-then-count-gt8 c = let a = c.args in
    let e = too_many a.count a.set a.room.now c.if-count-gt8.true in
    (rw e, rw e)

pub returns-then-bad-count : goal.returns-then-bad-count
returns-then-bad-count c = let a = c.args in
    let b = rw c.request_bytes-m.ensures at c.least_bad-bad.ensures in
    let e = bad_one a.count a.set a.room.now c.if-count-gt8.false b c.if-bad-count.true in
    (rw e, rw e)

pub slice_bounds-put-end : goal.slice_bounds-put-end
slice_bounds-put-end c = sym (length-take-le _ _ (omega arith))

pub returns : goal.returns
returns c = let a = c.args in
    let b = rw c.request_bytes-m.ensures at c.least_bad-bad.ensures in
    let e = all_good a.count a.set a.room.now c.if-count-gt8.false b c.if-bad-count.false (omega arith) c.request_bytes-m.ensures in
    let p = c.put.ensures in
    (p.0 ∙ rw e, p.1 ∙ rw e)
