-- `panel_c::packed` meets its contract: by the station that the plain one stands for. Assumes nothing.
use mathlib.Core.Path.{ap}
use Rattle.station.specs.declared.Station.{Station}
use Rattle.panel_c.proofs.packed.Goals as goal

pub returns : goal.returns
returns c = ap (λ (s : Station). record { station = s; answer = c.args.o.answer }) c.packed.ensures
