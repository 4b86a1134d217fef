use mathlib.Core.Path.{refl, sym, ◌∙◌}
use Rattle.desk.specs.Lines.{outstanding}
use Rattle.desk_service.specs.DeskService.{in_set}
use Rattle.desk_service.proofs.Saying.{open_long, open_told, as_reply, as_brief, fit_refused, fit_told}
use Rattle.desk_service.proofs.Lined.{few_open, set_told}
use Rattle.desk_service.proofs.kinds.opens.Goals as goal

pub returns-then-m-gt4 : goal.returns-then-m-gt4
returns-then-m-gt4 c = as_brief c.args.room.now c.unread.ensures (open_long c.args.d c.args.m.now c.if-m-gt4.true) c.briefly.ensures

pub returns-then-number-ne0 : goal.returns-then-number-ne0
returns-then-number-ne0 c = as_reply c.args.room.now (fit_refused c.args.d (in_set (outstanding c.args.d)) c.args.room.now c.ask-o.ensures (λ z. c.if-number-ne0.true (c.number.ensures ∙ z)) c.called.ensures c.briefly-then-number-ne0.ensures) (open_told c.args.d c.args.m.now c.if-m-gt4.false)

pub put_set-written-requires : goal.put_set-written-requires
put_set-written-requires c = few_open c.args.d c.ask-o.ensures (sym c.number.ensures ∙ c.if-number-ne0.false) c.outstanding-s.ensures

pub returns : goal.returns
returns c = as_reply c.args.room.now (fit_told c.args.d (in_set (outstanding c.args.d)) c.args.room.now c.ask-o.ensures (sym c.number.ensures ∙ c.if-number-ne0.false) refl (set_told c.args.room.now c.args.d c.outstanding-s.ensures c.put_set-written.ensures)) (open_told c.args.d c.args.m.now c.if-m-gt4.false)
