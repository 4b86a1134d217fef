-- `station_program::asking::asked` meets its contract. Assumes nothing.
use Rattle.journal_keeper.proofs.Adding.{if_ok}
use Rattle.station_program.proofs.Opening.{whichever}
use Rattle.station_program.proofs.asking.asked.Goals as goal

pub returns-in_ok-garage-in-4 : goal.returns-in_ok-garage-in-4
returns-in_ok-garage-in-4 c = if_ok c.named-in-4.result c.named-in-4.ensures (λ k o. whichever _ _ _ _ k.1 o)

pub returns-in_ok-garage-in-5 : goal.returns-in_ok-garage-in-5
returns-in_ok-garage-in-5 c = if_ok c.made.result c.made.ensures (λ k o. whichever _ _ _ _ k.1 o)
