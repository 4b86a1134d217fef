-- `service::show` meets its contract: the twenty bytes of an image. Assumes nothing.
use Rattle.service.proofs.Replies.{twenty_bytes, put_image}
use native.Mathlib.Omega.{arith}
use Rattle.service.proofs.show.Goals as goal

pub returns : goal.returns
returns c = let a = c.args in put_image a.bits a.apart a.out.now _ c.image_bytes-b.ensures c.image_bytes-a.ensures (c.copy.ensures.all (omega (arith, twenty_bytes c.args.bits c.args.apart))).1
