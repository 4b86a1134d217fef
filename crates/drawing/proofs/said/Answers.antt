use native.Mathlib.Omega.{arith}
use Rattle.drawing.proofs.Sixteen.{first_digits, said_image, said_asked}
use Rattle.drawing.proofs.said.Goals as goal

pub number_in-record-requires : goal.number_in-record-requires
number_in-record-requires c = (omega arith, first_digits c.args.held.now.count c.args.held.now.bytes c.requires.0 c.requires.1)

pub returns-then-held-eq16 : goal.returns-then-held-eq16
returns-then-held-eq16 c = said_image c.args.held.now.count c.args.held.now.bytes c.requires.0 c.if-held-eq16.true c.number_in-record.ensures

pub returns : goal.returns
returns c =
    said_asked c.args.held.now.count c.args.held.now.bytes c.requires.0
    c.if-held-eq16.false c.number_in-record.ensures c.number_in-apart.ensures
