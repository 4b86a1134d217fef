-- `plan::imaged` meets its contract: the turn and the set that is left are the outcome. Assumes nothing.
use Rattle.std.proofs.Common.{ap, ◌∙◌}
use Rattle.codec.specs.Bytes.{from_little_endian}
use Rattle.wire.proofs.Parts.{from_on}
use Rattle.station.proofs.Turns.{rebuilt, kept_imaged}
use Rattle.plan.proofs.Walking.{number_at}
use Rattle.plan.proofs.Cases.{imaged_so}
use Rattle.plan.proofs.imaged.Goals as goal

pub returns : goal.returns
returns c =
    let s = c.args.plan.bytes.now in
    c.after.ensures ∙ rebuilt _ _ c.imaged-t.ensures (kept_imaged _ _ _)
    ∙ imaged_so s c.start-start.ensures c.image_of.ensures
    (c.image_of-apart.ensures ∙ ap (from_little_endian 8 0) (from_on s 8) ∙ number_at 8 8 s)
