-- `service::serve` meets its contract: long enough a room, or none of it. Assumes nothing.
use mathlib.Core.Path.{◌∙◌, sym}
use borrow.Author.Tests.{leb-true}
use borrow.Author.Rules.{rules}
use lib.ListN.{length}
use Rattle.service.specs.Runs.{serving, enough}
use Rattle.service.proofs.serve.Goals as goal

pub answer_all-requires : goal.answer_all-requires
answer_all-requires c = leb-true (enough (length c.args.input.now)) (length c.args.out.now) (sym c.fits.ensures ∙ c.if-fits.true)

pub returns-then-fits : goal.returns-then-fits
unfolding serving
returns-then-fits c = rw (sym c.fits.ensures ∙ c.if-fits.true) c.answer_all.ensures

pub returns : goal.returns
unfolding serving
returns c = rw (sym c.fits.ensures ∙ c.if-fits.false) (search rules)
