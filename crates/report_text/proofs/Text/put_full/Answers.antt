use native.Mathlib.Omega.{arith}
use Rattle.codec.specs.Text.{ascii}
use Rattle.report_text.specs.Lines.{full_line}
use Rattle.report_text.proofs.Laying.{then}
use Rattle.report_text.proofs.Text.put_full.Goals as goal

pub put_name-requires : goal.put_name-requires
put_name-requires c = omega (arith, c.requires, c.put.ensures.next, c.put.ensures.same)

pub put-requires-2 : goal.put-requires-2
put-requires-2 c =
    omega (arith, c.requires, c.put.ensures.next, c.put.ensures.same, c.put_name.ensures.next, c.put_name.ensures.same)

pub returns : goal.returns
unfolding full_line ascii
returns c =
    let word = c.put.ensures in
    then _ _ _ _ _ (omega (arith, c.requires)) word
    (then _ _ _ _ _ (omega (arith, c.requires, word.next, word.same)) c.put_name.ensures c.put-2.ensures)
