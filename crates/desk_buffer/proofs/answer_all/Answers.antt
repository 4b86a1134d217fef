use Rattle.desk_buffer.proofs.Serving.{answers_whole, sent_whole}
use Rattle.desk_buffer.proofs.Serving.{desk_started, used_within, made_within, passed_within, more_taken, goes_on, all_served, parts_fit}
use native.Mathlib.Omega.{arith}
use Rattle.desk_buffer.proofs.answer_all.Goals as goal

pub loop-d-init : goal.loop-d-init
loop-d-init c = (desk_started _ _ _ _, omega arith, omega arith)

pub slice_bounds-first-count : goal.slice_bounds-first-count
slice_bounds-first-count c = let i = c.loop-d.invariant.0.within in omega arith

pub slice_bounds-first-start : goal.slice_bounds-first-start
slice_bounds-first-start c = let i = c.loop-d.invariant.0.within in omega arith

pub slice_bounds-first-count-in-loop-d : goal.slice_bounds-first-count-in-loop-d
slice_bounds-first-count-in-loop-d c = let i = c.loop-d.invariant.0.small in let l = c.loop-d.invariant.0.long in omega arith

pub slice_bounds-first-start-in-loop-d : goal.slice_bounds-first-start-in-loop-d
slice_bounds-first-start-in-loop-d c = let i = c.loop-d.invariant.0.small in let l = c.loop-d.invariant.0.long in omega arith

pub slice_bounds-first-count-in-loop-d-2 : goal.slice_bounds-first-count-in-loop-d-2
slice_bounds-first-count-in-loop-d-2 c = let i = c.loop-d.invariant.0.fewer in let j = c.loop-d.invariant.0.within in let l = c.loop-d.invariant.0.wide in let p = c.requires in omega arith

pub slice_bounds-first-start-in-loop-d-2 : goal.slice_bounds-first-start-in-loop-d-2
slice_bounds-first-start-in-loop-d-2 c = let i = c.loop-d.invariant.0.fewer in let j = c.loop-d.invariant.0.within in let l = c.loop-d.invariant.0.wide in let p = c.requires in omega arith

pub first-w-requires : goal.first-w-requires
first-w-requires c = parts_fit c.loop-d.invariant.0 c.requires

pub overflow_add-at : goal.overflow_add-at
overflow_add-at c = let a = used_within c.loop-d.invariant.0 c.requires c.first-w.ensures in omega arith

pub overflow_add-made : goal.overflow_add-made
overflow_add-made c = let a = made_within c.loop-d.invariant.0 c.requires c.first-w.ensures in let k = c.loop-d.invariant.1 in omega arith

pub overflow_add-passed : goal.overflow_add-passed
overflow_add-passed c = let a = passed_within c.loop-d.invariant.0 c.requires c.first-w.ensures in let b = used_within c.loop-d.invariant.0 c.requires c.first-w.ensures in let k = c.loop-d.invariant.2 in omega arith

pub shape_of-out-then-not-w : goal.shape_of-out-then-not-w
shape_of-out-then-not-w c = answers_whole c.loop-d.invariant.0 c.requires c.first-w.ensures

pub shape_of-sent-then-not-w : goal.shape_of-sent-then-not-w
shape_of-sent-then-not-w c = sent_whole c.loop-d.invariant.0 c.requires c.first-w.ensures

pub returns-then-not-w : goal.returns-then-not-w
returns-then-not-w c = all_served c.loop-d.invariant.0 c.requires c.first-w.ensures c.if-not-w.true

pub loop-d-smaller : goal.loop-d-smaller
loop-d-smaller c = let a = used_within c.loop-d.invariant.0 c.requires c.first-w.ensures in let b = more_taken c.loop-d.invariant.0 c.requires c.first-w.ensures c.if-not-w.false in omega arith

pub loop-d-preserved : goal.loop-d-preserved
loop-d-preserved c = (goes_on c.loop-d.invariant.0 c.requires c.first-w.ensures c.if-not-w.false, c.loop-d.invariant.1, c.loop-d.invariant.2)
