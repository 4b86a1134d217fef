use Rattle.wire.specs.Reads.{as_parsed, read_whole}
use Rattle.wire.proofs.Reading.{answer_said, held_said}
use borrow.Author.Tests.{ne_eqb}
use mathlib.Core.Path.{◌∙◌, sym, ap}
use Rattle.wire.proofs.kinds.whole.Goals as goal

pub returns-in-128 : goal.returns-in-128
unfolding read_whole
returns-in-128 c =
    let m = c.args.m.now in
    rw (sym c.word_at-kind.ensures ∙ c.in-128.is)
    (c.sized.ensures ∙ ap as_parsed (answer_said m c.byte.ensures c.byte-in-128.ensures c.word_at.ensures))

pub returns-in-129 : goal.returns-in-129
unfolding read_whole
returns-in-129 c =
    let m = c.args.m.now in
    rw (sym c.word_at-kind.ensures ∙ c.in-129.is)
    (c.sized-in-129.ensures ∙ ap as_parsed (held_said m c.image_at.ensures c.image_at-in-129.ensures))

pub returns-in_default : goal.returns-in_default
unfolding read_whole
returns-in_default c =
    let others = c.in_default.in_default-own.rest in
    c.whole_asked.ensures ∙ rw (← c.word_at-kind.ensures) (simp (ne_eqb _ _ others.0.1, ne_eqb _ _ others.1))
