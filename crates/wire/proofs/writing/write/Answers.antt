use borrow.Enum.Refused.{opened}
use Rattle.wire.proofs.Room.{saying, as_plain, as_told}
use Rattle.wire.proofs.writing.write.Goals as goal

pub returns-in-Request : goal.returns-in-Request
returns-in-Request c =
    let a = c.args in
    as_told (saying a.m a.room.now c.in-Request.is) c.write_request.ensures

pub returns-in_default : goal.returns-in_default
returns-in_default c =
    let a = c.args in
    as_told (as_plain a.m.what a.m.count a.m.set a.room.now (opened c.in_default.in_default-own.keys2)) c.write_plain.ensures
