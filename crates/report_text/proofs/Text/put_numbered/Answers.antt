use Rattle.report_text.proofs.Laying.{then}
use Rattle.codec.specs.Text.{decimal}
use lib.ListN.{length-append}
use native.Mathlib.Omega.{arith}
use Rattle.report_text.proofs.Text.put_numbered.Goals as goal

pub put-requires : goal.put-requires
put-requires c = omega (arith, c.requires, length-append c.args.name.now (decimal c.args.n))

pub put_number-requires : goal.put_number-requires
put_number-requires c = omega (arith, c.requires, length-append c.args.name.now (decimal c.args.n), c.put.ensures.next, c.put.ensures.same)

pub returns : goal.returns
returns c = then _ _ _ _ _ (omega (arith, c.requires)) c.put.ensures c.put_number.ensures
