use borrow.Author.Rules.{rules}
use Rattle.wire.proofs.Room.{put_short, put_says, put_all}
use Rattle.desk_service.proofs.telling.put.Goals as goal

pub returns-then-room-src : goal.returns-then-room-src
returns-then-room-src c = let a = c.args in
    let e = put_short a.src.now a.room.now c.if-room-src.true in
    (rw e, rw e)

pub returns : goal.returns
returns c = let a = c.args in
    let h = c.if-room-src.false in
    let e = c.copy.ensures.all (search rules) in
    (put_says a.src.now a.room.now h e.0, put_all a.src.now a.room.now _ h e.1)
