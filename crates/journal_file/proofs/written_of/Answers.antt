use mathlib.Core.Path.{◌≡◌}
use Prim.Native.Nat.{◌+◌}
use borrow.Author.Rules.{rules}
use Rattle.std.specs.Option.{MatchOption}
use Rattle.journal_file.proofs.Zeros.{Last, written_by}
use Rattle.journal_file.proofs.written_of.Goals as goal

pub returns : goal.returns
returns c =
    let last : Last c.args.m.now c.rposition.result = search rules in
    let more : MatchOption c.rposition.result (c.map_or.result ≡ 0) (λ i. c.map_or.result ≡ i + 1) = search rules in
    written_by c.args.m.now c.rposition.result last more
