use Rattle.journal_reader.proofs.Filling.{held_long, held_last}
use Rattle.std.proofs.Common.{refl, arith}
use Rattle.journal_reader.proofs.read_on.Goals as goal

pub fill_up-f-requires : goal.fill_up-f-requires
fill_up-f-requires c = let p = c.requires in let e = held_long c.args.buf.now c.hold-have.new.buf c.hold-have.new.buf c.args.q.from c.args.q.at c.args.q.end c.hold-have.result p.1 p.2 p.3 c.hold-have.ensures in omega (arith, e, p.1, p.2, p.3, c.hold-have.auto.buf)

pub returns : goal.returns
returns c = let p = c.requires in let u = c.fill_up-f.ensures in let e = held_long c.args.buf.now c.hold-have.new.buf c.hold-have.new.buf c.args.q.from c.args.q.at c.args.q.end c.hold-have.result p.1 p.2 p.3 c.hold-have.ensures in ((p.0, omega arith, omega (arith, e, u.0, p.1, p.2), omega (arith, u.1, c.hold-have.auto.buf)), (refl, refl, held_last c.args.buf.now c.hold-have.new.buf c.fill_up-f.new.buf c.args.q.from c.args.q.at c.args.q.end c.hold-have.result p.1 p.2 p.3 c.hold-have.ensures u.2))
