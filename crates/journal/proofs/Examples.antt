-- A journal of two messages, whole, cut and damaged. Assumes nothing.
use Rattle.std.proofs.Common.{[], ◌∷◌, refl, ap}
use Rattle.journal.specs.Journal.{Messages, Replayed}
use Rattle.journal.specs.Statements.{two_messages, Example}
use Rattle.journal.proofs.Restart.{torn_tail}
use Rattle.journal.proofs.Which.{damaged_exactly}

pub example : Example
example =
    let each : Messages two_messages = (refl, (refl, tt)) in (
      each,
      ap (λ (r : Replayed). r.whole) (torn_tail two_messages 8 each),
      ap (λ (r : Replayed). r.station) (torn_tail two_messages 8 each),
      (damaged_exactly _).1 (record { messages = two_messages; rest = 0 ∷ 0 ∷ []; each = each; bytes_are = refl; first = refl }),
    )
