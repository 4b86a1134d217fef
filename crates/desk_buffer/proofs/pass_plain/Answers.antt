use mathlib.Core.Path.{◌≡◌}
use borrow.Author.Rules.{rules}
use Rattle.wire.proofs.Results.{size_said}
use Rattle.desk_buffer.proofs.Serving.{wrote_plain}
use Rattle.desk_buffer.proofs.pass_plain.Goals as goal

pub returns : goal.returns
returns c =
    let e : c.unwrap_or.result ≡ size_said c.write_plain.result = search rules in
    rw e (wrote_plain c.args.what c.args.room.now c.requires.0 c.requires.1 c.write_plain.ensures)
