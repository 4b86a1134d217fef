use Rattle.desk_service.specs.DeskService.{brief, reply_read}
use Rattle.wire.specs.Kinds.{kinds_asked}
use Rattle.desk_wire.specs.DeskKinds.{list_kind, open_kind, compare_kind, shapes_asked}
use Rattle.desk_wire.specs.DeskReads.{read_shape, read_shaped}
use borrow.Author.Tests.{ne_eqb}
use mathlib.Core.Path.{refl, sym, ◌∙◌}
use Rattle.desk_service.proofs.Saying.{as_reply}
use Rattle.desk_service.proofs.kinds.answered.Goals as goal

pub returns-in-6 : goal.returns-in-6
returns-in-6 c = as_reply {a = brief c.begins.result} {b = reply_read c.args.d (read_shaped kinds_asked shapes_asked c.args.m.now)} c.args.room.now c.briefly.ensures (rw (sym c.kind_at.ensures ∙ c.in-6.is) c.begins.ensures)

pub returns-in-7 : goal.returns-in-7
returns-in-7 c = as_reply {a = brief c.pictured.result} {b = reply_read c.args.d (read_shaped kinds_asked shapes_asked c.args.m.now)} c.args.room.now c.briefly-in-7.ensures (rw (sym c.kind_at.ensures ∙ c.in-7.is) c.pictured.ensures)

pub returns-in-8 : goal.returns-in-8
returns-in-8 c = as_reply {a = brief c.seeks.result} {b = reply_read c.args.d (read_shaped kinds_asked shapes_asked c.args.m.now)} c.args.room.now c.briefly-in-8.ensures (rw (sym c.kind_at.ensures ∙ c.in-8.is) c.seeks.ensures)

pub returns-in-9 : goal.returns-in-9
returns-in-9 c = as_reply {a = brief c.leaves.result} {b = reply_read c.args.d (read_shaped kinds_asked shapes_asked c.args.m.now)} c.args.room.now c.briefly-in-9.ensures (rw (sym c.kind_at.ensures ∙ c.in-9.is) c.leaves.ensures)

pub returns-in-10 : goal.returns-in-10
returns-in-10 c = as_reply {a = reply_read c.args.d (read_shape list_kind c.args.m.now)} {b = reply_read c.args.d (read_shaped kinds_asked shapes_asked c.args.m.now)} c.args.room.now c.lists.ensures (rw (sym c.kind_at.ensures ∙ c.in-10.is) refl)

pub returns-in-11 : goal.returns-in-11
returns-in-11 c = as_reply {a = reply_read c.args.d (read_shape open_kind c.args.m.now)} {b = reply_read c.args.d (read_shaped kinds_asked shapes_asked c.args.m.now)} c.args.room.now c.opens.ensures (rw (sym c.kind_at.ensures ∙ c.in-11.is) refl)

pub returns-in-12 : goal.returns-in-12
returns-in-12 c = as_reply {a = reply_read c.args.d (read_shape compare_kind c.args.m.now)} {b = reply_read c.args.d (read_shaped kinds_asked shapes_asked c.args.m.now)} c.args.room.now c.compares.ensures (rw (sym c.kind_at.ensures ∙ c.in-12.is) refl)

pub returns-in_default : goal.returns-in_default
returns-in_default c = let others = c.in_default.in_default-own.rest in
    as_reply {b = reply_read c.args.d (read_shaped kinds_asked shapes_asked c.args.m.now)} c.args.room.now c.briefly-in_default.ensures
    (c.of_station.ensures ∙ rw (← c.kind_at.ensures)
    (simp (ne_eqb _ _ others.0.0.0.0.0.0.1, ne_eqb _ _ others.0.0.0.0.0.1, ne_eqb _ _ others.0.0.0.0.1, ne_eqb _ _ others.0.0.0.1, ne_eqb _ _ others.0.0.1, ne_eqb _ _ others.0.1, ne_eqb _ _ others.1)))
