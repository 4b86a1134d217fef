use mathlib.Core.Path.{refl, sym, ◌∙◌}
use Rattle.desk.specs.Lines.{listed_cars}
use Rattle.desk_service.specs.DeskService.{in_lines}
use Rattle.desk_service.proofs.Saying.{list_long, list_told, as_reply, as_brief, fit_refused, fit_told}
use Rattle.desk_service.proofs.Lined.{few_cars, lines_told}
use Rattle.desk_service.proofs.kinds.lists.Goals as goal

pub returns-then-m-gt4 : goal.returns-then-m-gt4
returns-then-m-gt4 c = as_brief c.args.room.now c.unread.ensures (list_long c.args.d c.args.m.now c.if-m-gt4.true) c.briefly.ensures

pub returns-then-number-ne0 : goal.returns-then-number-ne0
returns-then-number-ne0 c = as_reply c.args.room.now (fit_refused c.args.d (in_lines 138 (listed_cars c.args.d)) c.args.room.now c.ask-o.ensures (λ z. c.if-number-ne0.true (c.number.ensures ∙ z)) c.called.ensures c.briefly-then-number-ne0.ensures) (list_told c.args.d c.args.m.now c.if-m-gt4.false)

pub put_lines-written-requires : goal.put_lines-written-requires
put_lines-written-requires c = few_cars c.args.d c.list-all.ensures

pub returns : goal.returns
returns c = as_reply c.args.room.now (fit_told c.args.d (in_lines 138 (listed_cars c.args.d)) c.args.room.now c.ask-o.ensures (sym c.number.ensures ∙ c.if-number-ne0.false) refl (lines_told c.args.room.now 138 (listed_cars c.args.d) c.list-all.ensures c.put_lines-written.ensures)) (list_told c.args.d c.args.m.now c.if-m-gt4.false)
