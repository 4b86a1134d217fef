use Rattle.desk_buffer.specs.DeskServing.{held_back}
use mathlib.Core.Path.{refl, sym, ap, ◌∙◌}
use Rattle.desk_buffer.proofs.pass_on.Goals as goal

pub returns-then-held_back : goal.returns-then-held_back
returns-then-held_back c = rw (sym (ap held_back c.number_in.ensures) ∙ sym c.held_back.ensures ∙ c.if-held_back.true) (refl, refl)

pub returns : goal.returns
returns c = rw (sym (ap held_back c.number_in.ensures) ∙ sym c.held_back.ensures ∙ c.if-held_back.false) c.pass.ensures
