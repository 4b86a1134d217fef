use native.Mathlib.Omega.{arith}
use mathlib.Core.Path.{◌≡◌, refl}
use Rattle.desk_buffer.proofs.Serving.{form_same, form_begin, form_image, form_none, copied}
use Rattle.desk_buffer.proofs.pass.Goals as goal

pub returns-in-0-to-5 : goal.returns-in-0-to-5
returns-in-0-to-5 c = copied c.args.m.now c.args.room.now (form_same c.args.m.now c.kind_at.ensures (omega arith)) (c.copy.ensures.all c.requires)

pub returns-in-6 : goal.returns-in-6
returns-in-6 c = rw (form_begin c.args.m.now c.kind_at.ensures (omega arith) c.in-6.is) c.pass_begin.ensures

pub returns-in-7 : goal.returns-in-7
returns-in-7 c = rw (form_image c.args.m.now c.kind_at.ensures (omega arith) (λ (e : c.kind_at.result ≡ 6). omega arith) c.in-7.is) c.pass_image.ensures

pub returns-in_default : goal.returns-in_default
returns-in_default c = rw (form_none c.args.m.now c.kind_at.ensures (omega arith) (λ (e : c.kind_at.result ≡ 6). omega arith) (λ (e : c.kind_at.result ≡ 7). omega arith)) (refl, refl)
