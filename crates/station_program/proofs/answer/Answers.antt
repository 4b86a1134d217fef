-- `station_program::answer` meets its contract: what is appended is what the run took, and nothing is said before. Assumes nothing.
use Rattle.std.proofs.Common.{sym, length-take-le}
use Rattle.station_program.proofs.Turning.{taken_within, taken_follows, held_short, as_turn}
use Rattle.station_program.proofs.answer.Goals as goal

pub slice_bounds-serve-end-2 : goal.slice_bounds-serve-end-2
slice_bounds-serve-end-2 c = sym (length-take-le _ _ c.requires.0)

pub record-requires : goal.record-requires
record-requires c = let pre = c.requires in let args = c.args in let s = c.serve-w.ensures.0 in ((taken_within _ args.buf.now args.end args.out.now _ pre.1 s).0, pre.0, pre.2, pre.3, pre.4, taken_follows _ args.buf.now args.end args.out.now _ pre.1 s)

pub say-requires : goal.say-requires
say-requires c = let r = c.in_ok-kept.ensures in (r.2, r.1)

pub returns : goal.returns
returns c = (λ q. (held_short _ c.args.buf.now c.args.end c.args.out.now _ c.requires.1 c.serve-w.ensures.0 _ _ c.hold-have.ensures.0 q, c.in_ok-kept.ensures.2), as_turn _ c.args.buf.now c.args.end c.args.out.now _ _ _ _ _ _ c.serve-w.ensures c.hold-have.ensures c.in_ok-kept.ensures.0)
