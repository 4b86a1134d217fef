use Rattle.journal_file.proofs.Heading.{none, all}
use Rattle.checksum.specs.Slices.{crc_by}
use Rattle.journal_file.proofs.head_of.Goals as goal

pub returns-then-m-lt128 : goal.returns-then-m-lt128
returns-then-m-lt128 c = none (crc_by c.args.t.now) _ c.if-m-lt128.true c.station_of.ensures

pub kind_of-kind-requires : goal.kind_of-kind-requires
kind_of-kind-requires c = (c.if-m-lt128.false, c.station_of-station.ensures)

pub returns : goal.returns
returns c = all (crc_by c.args.t.now) _ c.if-m-lt128.false c.kind_of-kind.ensures c.station_of-station.ensures c.four_at.ensures
