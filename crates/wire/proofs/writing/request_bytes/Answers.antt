use Rattle.wire.proofs.Parts.{behind_five}
use native.Mathlib.Omega.{arith}
use Rattle.wire.proofs.writing.request_bytes.Goals as goal

pub returns : goal.returns
returns c =
    let head = c.copy in
    let tail = c.copy-2 in
    behind_five c.args.set head.new.room tail.new.room (omega arith) (head.ensures.all (omega arith)).1 (tail.ensures.all (omega arith)).1
