use native.Mathlib.Omega.{arith}
use Rattle.codec.specs.Text.{ascii}
use Rattle.report_text.specs.Lines.{line_of}
use Rattle.report_text.proofs.Laying.{then}
use Rattle.report_text.proofs.Names.{line_length}
use Rattle.report_text.proofs.Text.put_line.Goals as goal

pub put_name-requires : goal.put_name-requires
put_name-requires c = omega (arith, c.requires, line_length c.args.name c.args.value)

pub put-requires : goal.put-requires
put-requires c = omega (arith, c.requires, line_length c.args.name c.args.value, c.put_name.ensures.next, c.put_name.ensures.same)

pub put_number-requires : goal.put_number-requires
put_number-requires c =
    omega (
      arith,
      c.requires,
      line_length c.args.name c.args.value,
      c.put_name.ensures.next,
      c.put_name.ensures.same,
      c.put.ensures.next,
      c.put.ensures.same,
    )

pub put-requires-2 : goal.put-requires-2
put-requires-2 c =
    omega (
      arith,
      c.requires,
      line_length c.args.name c.args.value,
      c.put_name.ensures.next,
      c.put_name.ensures.same,
      c.put.ensures.next,
      c.put.ensures.same,
      c.put_number.ensures.next,
      c.put_number.ensures.same,
    )

pub returns : goal.returns
unfolding line_of ascii
returns c =
    let room = c.requires in
    let long = line_length c.args.name c.args.value in
    let name = c.put_name.ensures in
    let space = c.put.ensures in
    then _ _ _ _ _ (omega arith) name
    (then _ _ _ _ _ (omega (arith, name.next, name.same)) space
    (then _ _ _ _ _ (omega (arith, name.next, name.same, space.next, space.same)) c.put_number.ensures c.put-2.ensures))
