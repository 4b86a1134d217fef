-- `journal_files::write_head` meets its contract: what is written is a head. Assumes nothing.
use Rattle.checksum.specs.Slices.{crc_by}
use Rattle.journal_files.proofs.Written.{head_made}
use Rattle.journal_files.proofs.write_head.Goals as goal

pub write_titled-requires : goal.write_titled-requires
write_titled-requires c = head_made (crc_by c.args.t.now) c.args.garage.now c.args.station c.title-title.ensures c.station_bytes-bytes.ensures c.head_sum.ensures c.four_bytes-sum.ensures
