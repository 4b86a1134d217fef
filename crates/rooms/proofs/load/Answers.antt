-- `rooms::load` meets its contract: the set and what is set apart are parts of the room. Assumes nothing.
use mathlib.Core.Path.{◌∙◌}
use Rattle.rooms.specs.Rooms.{station_of}
use Rattle.rooms.proofs.Bytes.{set_in, apart_in}
use Rattle.rooms.proofs.load.Goals as goal

pub returns : goal.returns
unfolding station_of
returns c = rw (c.image_of.ensures, set_in c.args.room.now _ c.requires c.set_of.ensures, c.image_of-2.ensures ∙ apart_in c.args.room.now, c.word.ensures)
