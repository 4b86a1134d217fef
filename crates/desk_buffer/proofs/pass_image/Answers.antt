use Rattle.desk_buffer.proofs.Serving.{image_passed}
use borrow.Author.Tests.{lt-ltb}
use native.Mathlib.Omega.{arith}
use mathlib.Core.Path.{refl}
use lib.ListN.{length}
use Rattle.desk_buffer.proofs.pass_image.Goals as goal

pub returns-then-m-lt20 : goal.returns-then-m-lt20
returns-then-m-lt20 c = rw (lt-ltb (length c.args.m.now) 20 c.if-m-lt20.true) (refl, refl)

pub slice_bounds-image_of-count : goal.slice_bounds-image_of-count
slice_bounds-image_of-count c = let h = c.if-m-lt20.false in omega arith

pub slice_bounds-image_of-start : goal.slice_bounds-image_of-start
slice_bounds-image_of-start c = let h = c.if-m-lt20.false in omega arith

pub slice_bounds-image_of-count-2 : goal.slice_bounds-image_of-count-2
slice_bounds-image_of-count-2 c = let h = c.if-m-lt20.false in omega arith

pub slice_bounds-image_of-start-2 : goal.slice_bounds-image_of-start-2
slice_bounds-image_of-start-2 c = let h = c.if-m-lt20.false in omega arith

pub pass_plain-requires : goal.pass_plain-requires
pass_plain-requires c = (refl, (let h = c.if-m-lt20.false in let p = c.requires in omega arith))

pub returns : goal.returns
returns c = image_passed c.args.m.now c.args.room.now c.if-m-lt20.false c.image_of-bits.ensures c.image_of-apart.ensures c.pass_plain.ensures
