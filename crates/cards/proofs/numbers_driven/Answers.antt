-- `cards::numbers_driven` meets its contract: each event is one case of the definition. Assumes nothing.
use Rattle.cards.proofs.Listing.{all_kept_lem, waits_no_more, any_number}
use mathlib.Core.Path.{◌∙◌}
use Rattle.cards.proofs.numbers_driven.Goals as goal

pub returns-in-BeginIn : goal.returns-in-BeginIn
returns-in-BeginIn c = c.waiting.ensures ∙ rw c.in-BeginIn.is

pub returns-in-BeginOut : goal.returns-in-BeginOut
returns-in-BeginOut c = rw c.in-BeginOut.is (all_kept_lem c.args.n c.well_formed.1.1.0.1.0.1 c.args.c)

pub returns-in-EndDone : goal.returns-in-EndDone
returns-in-EndDone c = let a = c.args in c.arrived.ensures ∙ rw c.in-EndDone.is (any_number a.n a.c)

pub returns-in-EndNotDone : goal.returns-in-EndNotDone
returns-in-EndNotDone c = let a = c.args in c.waiting-in-EndNotDone.ensures ∙ rw c.in-EndNotDone.is (waits_no_more a.n a.c)
