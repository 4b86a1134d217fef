-- `station::Station::accepted` meets its contract: an overlap, why one is not allowed, or the set. Assumes nothing.
use Rattle.station.specs.Calls.{accepted}
use Rattle.std.proofs.Common.{◌∙◌, le-ltb, lt-ltb}
use Rattle.station.proofs.Station.accepted.Goals as goal

pub returns-then-found-count : goal.returns-then-found-count
unfolding accepted
returns-then-found-count c = c.unmoved.ensures ∙ rw (← c.requires.overlap, lt-ltb _ _ c.if-found-count.true)

pub returns-then-found-count-2 : goal.returns-then-found-count-2
unfolding accepted
returns-then-found-count-2 c =
    c.unmoved-then-found-count-2.ensures
    ∙ rw (
      ← c.requires.overlap,
      le-ltb _ _ c.if-found-count.false,
      ← c.requires.barred,
      lt-ltb _ _ c.if-found-count-2.true,
      c.answer_for.ensures,
      c.code_verdict-verdict.ensures,
      c.code_at.ensures,
    )

pub returns : goal.returns
unfolding accepted
returns c =
    rw (c.unmoved-2.ensures, ← c.requires.overlap, le-ltb _ _ c.if-found-count.false, ← c.requires.barred, le-ltb _ _ c.if-found-count-2.false)
