-- `journal_files::write_append` meets its contract: what is written is an append. Assumes nothing.
use Rattle.checksum.specs.Slices.{crc_by}
use Rattle.journal_files.proofs.Written.{parts_make}
use Rattle.journal_files.proofs.write_append.Goals as goal

pub write_parts-requires : goal.write_parts-requires
write_parts-requires c = parts_make (crc_by c.args.t.now) c.args.was c.args.kind c.args.bytes.now c.opening-opening.ensures c.sum_after-sum.ensures c.closing-closing.ensures
