use Rattle.report_text.proofs.Digits.{decimal_is}
use Rattle.report_text.proofs.Text.put_number.Goals as goal

pub put-requires : goal.put-requires
put-requires c =
    rw (decimal_is c.args.n c.decimal-k.result _ c.decimal-k.ensures.len c.decimal-k.ensures.digits) c.requires

pub returns : goal.returns
returns c =
    rw (← decimal_is c.args.n c.decimal-k.result _ c.decimal-k.ensures.len c.decimal-k.ensures.digits) c.put.ensures
