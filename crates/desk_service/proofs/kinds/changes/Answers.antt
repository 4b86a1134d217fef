use Rattle.desk_service.specs.declared.DeskTold.{DeskTold}
use mathlib.Core.Path.{refl, sym, ap, ◌∙◌}
use Rattle.desk_service.proofs.Lined.{few_changes, compare_refused, compare_told}
use Rattle.desk_service.proofs.kinds.changes.Goals as goal

pub returns-then-number-ne0 : goal.returns-then-number-ne0
returns-then-number-ne0 c = compare_refused c.args.d c.args.picture c.args.count c.args.given c.args.room.now c.compare-c.ensures (λ z. c.if-number-ne0.true (c.number.ensures ∙ z)) (ap (λ (t : DeskTold). record { desk = c.args.d; told = t }) c.reply_told-told.ensures) c.briefly.ensures

pub put_lines-written-requires : goal.put_lines-written-requires
put_lines-written-requires c = few_changes c.args.d c.args.picture c.args.count c.args.given c.compare-c.ensures

pub returns : goal.returns
returns c = compare_told c.args.d c.args.picture c.args.count c.args.given c.args.room.now c.compare-c.ensures (sym c.number.ensures ∙ c.if-number-ne0.false) refl c.put_lines-written.ensures
