-- `journal_keeper::add_to` meets its contract: with one append more the journal is one again. Assumes nothing.
use Rattle.std.proofs.Common.{refl, arith}
use Rattle.journal_keeper.proofs.Adding.{adding}
use Rattle.journal_keeper.proofs.add_to.Goals as goal

pub returns : goal.returns
returns c = λ numbers after lent j adds. (
  refl,
  refl,
  λ k.
      adding c.args.t.now c.args.j.station c.args.next c.args.was c.args.j.length c.args.kind c.args.bytes.now
      c.ranges.was.fits c.ranges.kind.fits (λ i. omega (arith, c.type_inv.bytes i))
      (rw c.in-Ok.is at c.write_append.ensures.0) refl refl numbers after lent j adds,
)
