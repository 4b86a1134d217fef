-- `rooms::tell` meets its contract: too short a room, a refusal, or the bytes. Assumes nothing.
use borrow.Author.Rules.{rules}
use Rattle.rooms.proofs.Rooms.{no_place, not_taken, all_taken}
use Rattle.rooms.proofs.tell.Goals as goal

pub returns-then-room-src : goal.returns-then-room-src
returns-then-room-src c = no_place _ _ _ c.if-room-src.true c.say.ensures

pub returns-then-said-ne0 : goal.returns-then-said-ne0
returns-then-said-ne0 c = not_taken _ _ _ c.if-room-src.false c.if-said-ne0.true

pub returns : goal.returns
returns c = all_taken _ _ _ c.if-room-src.false c.if-said-ne0.false (c.copy.ensures.all (search rules)).1
