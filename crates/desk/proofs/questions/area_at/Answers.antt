-- `desk::questions::area_at` meets its contract: by what the bytes say. Assumes nothing.
use mathlib.Core.Path.{sym, ◌∙◌}
use Rattle.desk.proofs.Asking.{area_good, area_bad, masked}
use Rattle.desk.proofs.questions.area_at.Goals as goal

pub returns-in-Some : goal.returns-in-Some
returns-in-Some c = c.unwrap_or.ensures ∙ masked c.area.result ∙ area_good _ _ (sym c.read_at.ensures ∙ c.in-Some.is) c.area.ensures

pub returns-in-None : goal.returns-in-None
returns-in-None c = area_bad _ (sym c.read_at.ensures ∙ c.in-None.is)
