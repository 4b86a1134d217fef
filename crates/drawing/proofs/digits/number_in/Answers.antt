use native.Mathlib.Omega.{arith}
use Rattle.drawing.proofs.Sixteen.{numbering_starts, there, is_digit, numbers, numbering_ends}
use Rattle.drawing.proofs.digits.number_in.Goals as goal

pub loop-k-preserved : goal.loop-k-preserved
loop-k-preserved c =
    numbers c.args.first c.args.held.now.bytes c.requires.1 c.loop-k.invariant c.loop-k-test.true (is_digit c.digit_of.ensures c.unwrap-high.ensures) (is_digit c.digit_of-in-loop-k.ensures c.unwrap-low.ensures)

pub loop-k-init : goal.loop-k-init
loop-k-init c = numbering_starts _ _

pub unwrap-high-requires : goal.unwrap-high-requires
unwrap-high-requires c = there c.args.first c.args.held.now.bytes c.requires.0 c.requires.1 (omega arith) c.digit_of.ensures

pub unwrap-low-requires : goal.unwrap-low-requires
unwrap-low-requires c = there c.args.first c.args.held.now.bytes c.requires.0 c.requires.1 (omega arith) c.digit_of-in-loop-k.ensures

pub overflow_mul-number : goal.overflow_mul-number
overflow_mul-number c =
    let next = numbers c.args.first c.args.held.now.bytes c.requires.1 c.loop-k.invariant c.loop-k-test.true (is_digit c.digit_of.ensures c.unwrap-high.ensures) (is_digit c.digit_of-in-loop-k.ensures c.unwrap-low.ensures) in
    omega (arith, next.fits)

pub overflow_add-number : goal.overflow_add-number
overflow_add-number c =
    let next = numbers c.args.first c.args.held.now.bytes c.requires.1 c.loop-k.invariant c.loop-k-test.true (is_digit c.digit_of.ensures c.unwrap-high.ensures) (is_digit c.digit_of-in-loop-k.ensures c.unwrap-low.ensures) in
    omega (arith, next.fits)

pub overflow_add-number-in-loop-k : goal.overflow_add-number-in-loop-k
overflow_add-number-in-loop-k c =
    let next = numbers c.args.first c.args.held.now.bytes c.requires.1 c.loop-k.invariant c.loop-k-test.true (is_digit c.digit_of.ensures c.unwrap-high.ensures) (is_digit c.digit_of-in-loop-k.ensures c.unwrap-low.ensures) in
    omega (arith, next.fits)

pub returns : goal.returns
returns c = numbering_ends _ _ c.loop-k.invariant c.loop-k-test.false
