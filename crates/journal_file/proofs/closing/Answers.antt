use Rattle.journal_file.proofs.closing.Goals as goal

pub returns : goal.returns
returns c = rw c.four_bytes-s.ensures
