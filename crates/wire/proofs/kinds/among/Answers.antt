use Rattle.wire.proofs.Reading.{event_said, result_said, image_said}
use borrow.Author.Tests.{ne_eqb}
use mathlib.Core.Path.{◌∙◌, sym, ap}
use Rattle.wire.specs.Reads.{as_parsed}
use Rattle.wire.proofs.kinds.among.Goals as goal

pub returns-in-2 : goal.returns-in-2
returns-in-2 c =
    let m = c.args.m.now in
    rw (sym c.word_at-kind.ensures ∙ c.in-2.is) (c.sized.ensures ∙ ap as_parsed (event_said m c.byte.ensures))

pub returns-in-3 : goal.returns-in-3
returns-in-3 c =
    let m = c.args.m.now in
    rw (sym c.word_at-kind.ensures ∙ c.in-3.is)
    (c.sized-in-3.ensures ∙ ap as_parsed (result_said m c.word_at.ensures c.byte-in-3.ensures c.byte-in-3-2.ensures))

pub returns-in-4 : goal.returns-in-4
returns-in-4 c =
    let m = c.args.m.now in
    rw (sym c.word_at-kind.ensures ∙ c.in-4.is)
    (c.sized-in-4.ensures ∙ ap as_parsed (image_said m c.image_at-bits.ensures c.image_at-apart.ensures))

pub returns-in-5 : goal.returns-in-5
returns-in-5 c = rw (sym c.word_at-kind.ensures ∙ c.in-5.is) c.sized-in-5.ensures

pub returns-in_default : goal.returns-in_default
returns-in_default c =
    let others = c.in_default.in_default-own.rest in
    c.refused.ensures ∙ rw (← c.word_at-kind.ensures)
    (simp (
      ne_eqb _ _ others.0.0.0.1,
      ne_eqb _ _ others.0.0.1,
      ne_eqb _ _ others.0.1,
      ne_eqb _ _ others.1,
    ))
