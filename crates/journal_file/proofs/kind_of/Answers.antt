use native.Mathlib.Omega.{arith}
use mathlib.Core.Path.{sym}
use lib.Seq.{length-take-le}
use Rattle.journal_file.proofs.Heading.{no_journal, other_format, damaged, unfit, good}
use Rattle.checksum.specs.Slices.{crc_by}
use Rattle.journal_file.proofs.kind_of.Goals as goal

pub slice_bounds-is_text-end : goal.slice_bounds-is_text-end
slice_bounds-is_text-end c = sym (length-take-le 20 c.args.m.now (omega arith))

pub returns-then-not-is_text : goal.returns-then-not-is_text
returns-then-not-is_text c = no_journal (crc_by c.args.t.now) _ c.is_text.ensures c.if-not-is_text.true-raw

pub returns-then-m-ne-FORMAT : goal.returns-then-m-ne-FORMAT
returns-then-m-ne-FORMAT c = other_format (crc_by c.args.t.now) _ c.is_text.ensures c.if-not-is_text.false-raw c.if-m-ne-FORMAT.true

pub slice_bounds-continue_by-end : goal.slice_bounds-continue_by-end
slice_bounds-continue_by-end c = sym (length-take-le 124 c.args.m.now (omega arith))

pub returns-then-four_at-continue_by : goal.returns-then-four_at-continue_by
returns-then-four_at-continue_by c = damaged (crc_by c.args.t.now) _ c.is_text.ensures c.if-not-is_text.false-raw c.if-m-ne-FORMAT.false c.four_at.ensures c.continue_by.ensures c.if-four_at-continue_by.true

pub returns-then-not-fit : goal.returns-then-not-fit
returns-then-not-fit c = unfit (crc_by c.args.t.now) _ c.is_text.ensures c.if-not-is_text.false-raw c.if-m-ne-FORMAT.false c.four_at.ensures c.continue_by.ensures c.if-four_at-continue_by.false c.fit.ensures c.requires.1 c.if-not-fit.true-raw

pub returns : goal.returns
returns c = good (crc_by c.args.t.now) _ c.is_text.ensures c.if-not-is_text.false-raw c.if-m-ne-FORMAT.false c.four_at.ensures c.continue_by.ensures c.if-four_at-continue_by.false c.fit.ensures c.requires.1 c.if-not-fit.false-raw
