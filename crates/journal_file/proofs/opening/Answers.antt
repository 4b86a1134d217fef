use Rattle.journal_file.proofs.opening.Goals as goal

pub returns : goal.returns
returns c = rw (c.four_bytes-s.ensures, c.continue_by.ensures, c.title_of-title.ensures)
