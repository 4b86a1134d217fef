-- What the desk tells of itself, and what that is good for. Proved in proofs/Facts.antt. Assumes nothing.
use Rattle.std.specs.Prelude.{◌≡◌, ◌↔◌, true, false, ℕ, ◌<◌}
use Rattle.bits.specs.Bits.{bit}
use Rattle.desk.specs.declared.Desk.{Desk}
use Rattle.desk.specs.Desk.{desk_fit}
use Rattle.desk.specs.Lines.{outstanding}
use Rattle.desk_laws.specs.Runs as desk
use Rattle.desk_laws.specs.Runs.{desk_answer_number}

-- on a fit desk a result that says failed, done or stuck is accepted exactly if it has the issue that is told, and is of an instruction that
-- is told and not told as answered
abbrev pub OutstandingTold : Type 0
OutstandingTold =
    (d : Desk) → desk_fit d ≡ true → (k i ending : ℕ) → ending < 3
    → let o = outstanding d in
    (desk_answer_number d (desk.reports (record { issue = k; number = i; ending = ending })) ≡ 0)
    ↔ ((k ≡ o.issue) × (i < o.count) × (bit o.answered i ≡ false))
