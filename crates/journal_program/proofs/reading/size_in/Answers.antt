-- `journal_program::reading::size_in` meets its contract. Assumes nothing.
use Rattle.std.proofs.Common.{◌-◌, Bool, cond, length, sym, ap}
use Rattle.journal_program.proofs.reading.size_in.Goals as goal

pub returns-then-append : goal.returns-then-append
returns-then-append c = sym (ap (λ (b : Bool). cond b (length c.args.append.now - 13) 0) c.if-append.true)

pub returns : goal.returns
returns c = sym (ap (λ (b : Bool). cond b (length c.args.append.now - 13) 0) c.if-append.false)
