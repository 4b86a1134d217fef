use native.Mathlib.Omega.{arith}
use mathlib.Core.Path.{refl}
use Rattle.desk_service.proofs.Lined.{lines_put}
use borrow.Author.Rules.{rules}
use Rattle.desk_service.proofs.telling.put_lines.Goals as goal

pub returns : goal.returns
returns c = lines_put c.args.room.now c.args.kind c.args.lines.count c.args.lines.bytes c.with_lines-b.result c.requires (omega arith) (search rules) c.with_lines-b.ensures refl c.put_first.ensures
