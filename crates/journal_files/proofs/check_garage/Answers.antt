-- `journal_files::check_garage` meets its contract. Assumes nothing.
use Rattle.std.proofs.Common.{sym, ◌∙◌}
use Rattle.journal_files.proofs.check_garage.Goals as goal

pub returns-then-is_text : goal.returns-then-is_text
returns-then-is_text c = sym c.if-is_text.true ∙ c.is_text.ensures

pub returns : goal.returns
returns c = sym c.if-is_text.false ∙ c.is_text.ensures
