use mathlib.Core.Path.{sym, ap, ◌∙◌}
use Prim.Native.Nat.{◌-◌}
use native.Mathlib.Omega.{arith}
use Rattle.totals.specs.declared.Name.TheVariants.{Kind, Number, Done, Failed}
use Rattle.totals.specs.Totals.{name_at}
use Rattle.totals.proofs.Order.{kind_at, number_at, done_at, failed_at, cars_in_at, cars_out_at, most_cars_from}
use Rattle.report_text.proofs.name_of.Goals as goal

pub returns-in-49 : goal.returns-in-49
returns-in-49 c = sym (ap name_at c.in-49.is ∙ cars_in_at)

pub returns-in-50 : goal.returns-in-50
returns-in-50 c = sym (ap name_at c.in-50.is ∙ cars_out_at)

pub returns-in-0-to-4 : goal.returns-in-0-to-4
returns-in-0-to-4 c = sym (kind_at c.args.place (omega arith) ∙ ap Kind (omega arith))

pub returns-in-5-to-38 : goal.returns-in-5-to-38
returns-in-5-to-38 c =
    let p = c.args.place in
    sym (ap name_at (omega arith) ∙ number_at (p - 5) (omega arith) ∙ ap Number (omega arith))

pub returns-in-39-to-43 : goal.returns-in-39-to-43
returns-in-39-to-43 c =
    let p = c.args.place in
    sym (ap name_at (omega arith) ∙ done_at (p - 39) (omega arith) ∙ ap Done (omega arith))

pub returns-in-44-to-48 : goal.returns-in-44-to-48
returns-in-44-to-48 c =
    let p = c.args.place in
    sym (ap name_at (omega arith) ∙ failed_at (p - 44) (omega arith) ∙ ap Failed (omega arith))

pub returns-in_default : goal.returns-in_default
returns-in_default c = sym (most_cars_from c.args.place (omega arith))
