-- `desk_c::listing::compared` meets its contract: too few bytes, or those of the numbers alone. Assumes nothing.
use Rattle.desk_c.proofs.Rooms.{few_lent, few_compared, all_compared, no_lines}
use Rattle.answers.specs.declared.Answer.TheVariants.{TooFewBytes}
use Rattle.desk.specs.declared.Reply.TheVariants.{Told}
use Rattle.desk.specs.declared.Lines.{Lines}
use lib.Seq.{length-take-le}
use mathlib.Core.Path.{sym, ap}
use Rattle.desk_c.proofs.listing.compared.Goals as goal

pub returns-then-run-size : goal.returns-then-run-size
returns-then-run-size c = few_compared _ _ _ _ _ c.lent-size.ensures c.if-run-size.true (ap (λ (l : Lines). record { reply = Told TooFewBytes; lines = l }) no_lines)

pub slice_bounds-padded-end : goal.slice_bounds-padded-end
slice_bounds-padded-end c = sym (length-take-le _ _ c.if-run-size.false)

pub padded-requires : goal.padded-requires
padded-requires c = rw (length-take-le _ _ c.if-run-size.false) (few_lent c.args.count c.lent-size.ensures)

pub returns : goal.returns
returns c = all_compared _ _ _ _ _ c.lent-size.ensures c.if-run-size.false c.padded.ensures c.given.ensures c.compare.ensures
