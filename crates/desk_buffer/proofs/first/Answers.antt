use Rattle.desk_buffer.proofs.Serving.{first_cut, first_wrong, first_whole}
use Rattle.desk_wire.proofs.Framing.{whole_up}
use lib.Seq.{length-take-le}
use native.Mathlib.Omega.{arith}
use mathlib.Core.Path.{sym, ◌∙◌}
use Rattle.desk_buffer.proofs.first.Goals as goal

pub refuse-requires : goal.refuse-requires
refuse-requires c = sym c.framed.ensures ∙ c.in-Wrong.is

pub slice_bounds-reply-end : goal.slice_bounds-reply-end
slice_bounds-reply-end c = sym (length-take-le c.in-Whole.n c.args.rest.now (whole_up 143 c.args.rest.now c.in-Whole.n (sym c.framed.ensures ∙ c.in-Whole.is)).within)

pub reply-requires : goal.reply-requires
reply-requires c = let n = c.in-Whole.n in let s = c.args.rest.now in let f = whole_up 143 s n (sym c.framed.ensures ∙ c.in-Whole.is) in let l = length-take-le n s f.within in let w = f.within in let p = c.requires in omega arith

pub returns-in-Cut : goal.returns-in-Cut
returns-in-Cut c = first_cut c.args.d c.args.rest.now c.args.out.now c.args.sent.now (sym c.framed.ensures ∙ c.in-Cut.is) c.ended.ensures

pub returns-in-Wrong : goal.returns-in-Wrong
returns-in-Wrong c = first_wrong c.args.d c.args.rest.now c.args.out.now c.args.sent.now (sym c.framed.ensures ∙ c.in-Wrong.is) c.refuse.ensures

pub returns-in-Whole : goal.returns-in-Whole
returns-in-Whole c = first_whole c.args.d c.args.rest.now c.args.out.now c.args.sent.now c.in-Whole.n (sym c.framed.ensures ∙ c.in-Whole.is) c.reply.ensures
