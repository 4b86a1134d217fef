-- `service::replied` meets its contract: cut short, of a wrong length, or the reply to a whole message. Assumes nothing.
use mathlib.Core.Path.{sym, ◌∙◌}
use lib.Seq.{length-take-le}
use Rattle.wire.proofs.Frames.{whole_frame}
use Rattle.service.proofs.Hearing.{respond_cut, respond_wrong, respond_whole}
use Rattle.service.proofs.replied.Goals as goal

pub slice_bounds-answered-end : goal.slice_bounds-answered-end
slice_bounds-answered-end c = sym (length-take-le c.in-Whole.n c.args.m.now (whole_frame c.args.m.now c.in-Whole.n (sym c.framed.ensures ∙ c.in-Whole.is)).within)

pub returns-in-Cut : goal.returns-in-Cut
returns-in-Cut c = let a = c.args in c.unread.ensures ∙ (respond_cut a.known a.s a.m.now (sym c.framed.ensures ∙ c.in-Cut.is))

pub returns-in-Wrong : goal.returns-in-Wrong
returns-in-Wrong c = let a = c.args in c.unread-in-Wrong.ensures ∙ (respond_wrong a.known a.s a.m.now (sym c.framed.ensures ∙ c.in-Wrong.is))

pub returns-in-Whole : goal.returns-in-Whole
returns-in-Whole c = let a = c.args in c.answered.ensures ∙ sym (respond_whole a.known a.s a.m.now _ (sym c.framed.ensures ∙ c.in-Whole.is))
