-- `service::fits` meets its contract. Assumes nothing.
use Rattle.service.proofs.Replies.{fits_by_fifth}
use Rattle.service.proofs.fits.Goals as goal

pub returns : goal.returns
returns c = fits_by_fifth c.args.n c.args.room
