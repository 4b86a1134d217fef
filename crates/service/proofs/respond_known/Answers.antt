-- `service::respond_known` meets its contract: nothing is sure. Assumes nothing.
use mathlib.Core.Path.{refl}
use Rattle.bits.proofs.Cases.{clash}
use Rattle.service.proofs.respond_known.Goals as goal

pub replied-requires : goal.replied-requires
replied-requires c = λ e. clash e refl

pub returns : goal.returns
returns c = c.replied.ensures
