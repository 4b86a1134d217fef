-- `desk::Desk::following` meets its contract: by what the station says. Assumes nothing.
use mathlib.Core.Path.{sym, ◌∙◌}
use Rattle.desk.specs.Calls.{desk_holding}
use Rattle.desk.proofs.Taking.{says_no, says_yes}
use Rattle.desk.proofs.Desk.following.Goals as goal

pub returns-then-is_taken : goal.returns-then-is_taken
returns-then-is_taken c =
    let a = c.args in
    c.holding.ensures
    ∙ says_yes a.self a.o (desk_holding a.o a.numbers) (sym c.is_taken.ensures ∙ c.if-is_taken.true)

pub returns : goal.returns
returns c =
    let a = c.args in
    c.refused.ensures
    ∙ says_no a.self a.o (desk_holding a.o a.numbers) (sym c.is_taken.ensures ∙ c.if-is_taken.false)
