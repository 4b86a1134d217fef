use lib.Seq.{length-take-le}
use mathlib.Core.Path.{◌∙◌, sym}
use Rattle.desk_wire.proofs.Framing.{whole_up}
use Rattle.desk_service.proofs.Saying.{respond_cut, respond_wrong, respond_whole, as_reply, as_brief}
use Rattle.desk_service.proofs.respond.Goals as goal

pub slice_bounds-answered-end : goal.slice_bounds-answered-end
slice_bounds-answered-end c = let n = c.in-Whole.n in
    let s = c.args.m.now in
    sym (length-take-le n s (whole_up 143 s n (sym c.framed-frame.ensures ∙ c.in-Whole.is)).within)

pub returns-in-Cut : goal.returns-in-Cut
returns-in-Cut c = as_brief c.args.room.now c.unread.ensures (respond_cut c.args.d c.args.m.now (sym c.framed-frame.ensures ∙ c.in-Cut.is)) c.briefly.ensures

pub returns-in-Wrong : goal.returns-in-Wrong
returns-in-Wrong c = as_brief c.args.room.now c.unread-in-Wrong.ensures (respond_wrong c.args.d c.args.m.now (sym c.framed-frame.ensures ∙ c.in-Wrong.is)) c.briefly-in-Wrong.ensures

pub returns-in-Whole : goal.returns-in-Whole
returns-in-Whole c = as_reply c.args.room.now c.answered.ensures (respond_whole c.args.d c.args.m.now _ (sym c.framed-frame.ensures ∙ c.in-Whole.is))
