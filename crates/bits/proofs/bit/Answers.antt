use Rattle.bits.proofs.Digits.{bit_past}
use mathlib.Core.Path.{sym}
use borrow.Author.Rules.{rules}
use Rattle.bits.proofs.bit.Goals as goal

pub returns : goal.returns
returns c = sym (bit_past c.args.r 64 c.args.k (search rules) c.if-k-lt64.false)
