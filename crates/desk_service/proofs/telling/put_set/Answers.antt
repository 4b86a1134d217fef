use native.Mathlib.Omega.{arith}
use mathlib.Core.Path.{refl}
use Rattle.desk_service.proofs.Lined.{set_put}
use borrow.Author.Rules.{rules}
use Rattle.desk_service.proofs.telling.put_set.Goals as goal

pub returns : goal.returns
returns c = set_put c.args.room.now c.args.issue c.args.answered c.args.count c.args.set c.with_set-b.result c.requires (omega arith) (search rules) c.with_set-b.ensures refl c.put_first.ensures
