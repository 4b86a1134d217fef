use Rattle.journal_file.proofs.Fronts.{carried_by}
use Rattle.checksum.specs.Slices.{crc_by}
use Rattle.journal_file.proofs.is_carried.Goals as goal

pub returns : goal.returns
returns c = carried_by (crc_by c.args.t.now) _ _ c.requires.0 c.four_at-before.ensures c.four_at-said.ensures c.continue_by.ensures
