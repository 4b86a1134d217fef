-- `plain::named` meets its contract: each variant is one case of the definition. Assumes nothing.
use Rattle.plain.proofs.named.Goals as goal

pub returns-in-Some : goal.returns-in-Some
returns-in-Some c = rw (← c.belt_of-belt.ensures, c.in-Some.is, c.names.ensures)

pub returns-in-None : goal.returns-in-None
returns-in-None c = rw (← c.belt_of-belt.ensures, c.in-None.is)
