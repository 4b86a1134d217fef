-- `floor::belt_of` meets its contract: each arm of the match is one range of the definition. Assumes nothing.
use native.Mathlib.Omega.{arith}
use borrow.Author.Tests.{lt-ltb, le-ltb}
use Rattle.floor.specs.Floor.{belt_of}
use Rattle.floor.proofs.belt_of.Goals as goal

pub returns-in-20 : goal.returns-in-20
unfolding belt_of
returns-in-20 c = rw c.in-20.is

pub returns-in-29 : goal.returns-in-29
unfolding belt_of
returns-in-29 c = rw c.in-29.is

pub returns-in-30 : goal.returns-in-30
unfolding belt_of
returns-in-30 c = rw c.in-30.is

pub returns-in-39 : goal.returns-in-39
unfolding belt_of
returns-in-39 c = rw c.in-39.is

pub returns-in-0-to-1 : goal.returns-in-0-to-1
unfolding belt_of
returns-in-0-to-1 c =
    let x = c.args.cell in
    simp (lt-ltb x 2 (omega arith))

pub returns-in-2-to-10 : goal.returns-in-2-to-10
unfolding belt_of
returns-in-2-to-10 c =
    let x = c.args.cell in
    simp (le-ltb x 2 (omega arith), lt-ltb x 11 (omega arith))

pub returns-in-11-to-12 : goal.returns-in-11-to-12
unfolding belt_of
returns-in-11-to-12 c =
    let x = c.args.cell in
    simp (le-ltb x 2 (omega arith), le-ltb x 11 (omega arith), lt-ltb x 13 (omega arith))

pub returns-in-13-to-17 : goal.returns-in-13-to-17
unfolding belt_of
returns-in-13-to-17 c =
    let x = c.args.cell in
    simp (le-ltb x 2 (omega arith), le-ltb x 11 (omega arith), le-ltb x 13 (omega arith), lt-ltb x 18 (omega arith))

pub returns-in-18-to-19 : goal.returns-in-18-to-19
unfolding belt_of
returns-in-18-to-19 c =
    let x = c.args.cell in
    simp (le-ltb x 2 (omega arith), le-ltb x 11 (omega arith), le-ltb x 13 (omega arith), le-ltb x 18 (omega arith), lt-ltb x 20 (omega arith))

pub returns-in-21-to-28 : goal.returns-in-21-to-28
unfolding belt_of
returns-in-21-to-28 c =
    let x = c.args.cell in
    simp (le-ltb x 2 (omega arith), le-ltb x 11 (omega arith), le-ltb x 13 (omega arith), le-ltb x 18 (omega arith), le-ltb x 20 (omega arith), le-ltb x 21 (omega arith), lt-ltb x 29 (omega arith))

pub returns-in-31-to-38 : goal.returns-in-31-to-38
unfolding belt_of
returns-in-31-to-38 c =
    let x = c.args.cell in
    simp (le-ltb x 2 (omega arith), le-ltb x 11 (omega arith), le-ltb x 13 (omega arith), le-ltb x 18 (omega arith), le-ltb x 20 (omega arith), le-ltb x 21 (omega arith), le-ltb x 29 (omega arith), le-ltb x 30 (omega arith), le-ltb x 31 (omega arith), lt-ltb x 39 (omega arith))

pub returns-in_default : goal.returns-in_default
unfolding belt_of
returns-in_default c =
    let x = c.args.cell in
    simp (le-ltb x 2 (omega arith), le-ltb x 11 (omega arith), le-ltb x 13 (omega arith), le-ltb x 18 (omega arith), le-ltb x 20 (omega arith), le-ltb x 21 (omega arith), le-ltb x 29 (omega arith), le-ltb x 30 (omega arith), le-ltb x 31 (omega arith), le-ltb x 39 (omega arith), le-ltb x 40 (omega arith))
