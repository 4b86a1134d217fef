use borrow.Author.Tests.{lt-ltb, le-ltb}
use native.Mathlib.Omega.{arith}
use mathlib.Core.Path.{refl}
use lib.ListN.{length}
use Rattle.desk_buffer.proofs.pass_begin.Goals as goal

pub returns-then-m-lt8 : goal.returns-then-m-lt8
returns-then-m-lt8 c = rw (lt-ltb (length c.args.m.now) 8 c.if-m-lt8.true) (refl, refl)

pub pass_plain-requires : goal.pass_plain-requires
pass_plain-requires c = (refl, (let h = c.if-m-lt8.false in let p = c.requires in omega arith))

pub returns : goal.returns
returns c = rw (le-ltb (length c.args.m.now) 8 c.if-m-lt8.false) c.pass_plain.ensures
