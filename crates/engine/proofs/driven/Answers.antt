-- `engine::driven` meets its contract: out of turn, not possible, places kept open, or the record after it. Assumes nothing.
use Rattle.engine.proofs.Answers.{event_untimely, event_refused, event_kept_open, event_taken}
use Rattle.bits.proofs.Cases.{failed, passed}
use Rattle.engine.proofs.driven.Goals as goal

pub returns-then-not-in_turn : goal.returns-then-not-in_turn
returns-then-not-in_turn c = event_untimely _ _ (failed c.in_turn.ensures c.if-not-in_turn.true-raw)

pub returns-then-not-possible : goal.returns-then-not-possible
returns-then-not-possible c = event_refused _ _ (passed c.in_turn.ensures c.if-not-in_turn.false-raw) (failed c.possible.ensures c.if-not-possible.true-raw)

pub returns-then-not-places_open : goal.returns-then-not-places_open
returns-then-not-places_open c = event_kept_open _ _ (passed c.in_turn.ensures c.if-not-in_turn.false-raw) (passed c.possible.ensures c.if-not-possible.false-raw) (failed c.places_open.ensures c.if-not-places_open.true-raw)

pub returns : goal.returns
returns c = event_taken _ _ (passed c.in_turn.ensures c.if-not-in_turn.false-raw) (passed c.possible.ensures c.if-not-possible.false-raw) (passed c.places_open.ensures c.if-not-places_open.false-raw) _ c.after.ensures
