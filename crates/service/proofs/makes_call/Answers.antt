-- `service::makes_call` meets its contract: kind 128, kind 129, or any other. Assumes nothing.
use borrow.Enum.Refused.{opened}
use Rattle.service.proofs.Replies.{makes_call_lem}
use Rattle.service.proofs.makes_call.Goals as goal

pub returns-in_default : goal.returns-in_default
returns-in_default c = makes_call_lem c.args.what (opened c.in_default.in_default-own.keys2)
