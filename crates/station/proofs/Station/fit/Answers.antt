-- `station::Station::fit` meets its contract: the marks by two laws, the rest by its parts. Assumes nothing.
use Rattle.station.proofs.Marks.{fit_is, unfit_is}
use Rattle.std.proofs.Common.{arith}
use Rattle.station.proofs.Station.fit.Goals as goal

pub returns-then-n-gt-MOST : goal.returns-then-n-gt-MOST
returns-then-n-gt-MOST c = unfit_is _ c.if-n-gt-MOST.true

pub returns : goal.returns
returns c = fit_is _ c.if-n-gt-MOST.false (omega arith) c.sound.ensures c.all_marks-all.ensures c.rest_zero.ensures c.under_way.ensures c.search-found.ensures
