-- `service::respond` meets its contract: the reply where fitness has just been tested. Assumes nothing.
use mathlib.Core.Path.{sym, ◌∙◌}
use Rattle.service.proofs.Called.{known_reply}
use Rattle.service.proofs.respond.Goals as goal

pub replied-requires : goal.replied-requires
replied-requires c = λ e. sym c.fit-tested.ensures ∙ e

pub returns : goal.returns
returns c = c.replied.ensures ∙ known_reply _ _ c.fit-tested.ensures
