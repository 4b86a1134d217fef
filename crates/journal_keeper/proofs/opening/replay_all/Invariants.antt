use Rattle.std.proofs.Common.{◌≡◌, length}
use Rattle.journal_reader.specs.Reading.{BuffersLent, CardsStand}
use Rattle.journal_keeper.proofs.opening.replay_all.Given as goal

abbrev pub invariant-loop : goal.invariant-loop
invariant-loop l =
    (length l.buf ≡ length l.initial.buf) × (length l.room ≡ length l.initial.room)
    × (BuffersLent l.t l.initial.room → CardsStand l.asked l.q l.cards l.numbers l.buf)
