use Rattle.checksum.proofs.Running.{byte_becomes}
use Rattle.checksum.proofs.byte_moved.Goals as goal

pub returns : goal.returns
returns c = byte_becomes c.args.x c.requires
