use mathlib.Core.Path.{sym, ◌∙◌}
use native.Mathlib.Omega.{arith}
use Rattle.journal_file.proofs.Fronts.{titled_most}
use Rattle.journal_file.proofs.Zeros.{written_most, too_long, to_the_end, in_opening, with_title, without}
use Rattle.checksum.specs.Slices.{crc_by}
use borrow.Author.Rules.{rules}
use Rattle.journal_file.proofs.is_zeroed.Goals as goal

pub returns-then-m : goal.returns-then-m
returns-then-m c = too_long (crc_by c.args.t.now) c.args.sum c.args.at _ c.if-m.true

pub lost_from-lost-requires : goal.lost_from-lost-requires
lost_from-lost-requires c = let h = written_most c.args.m.now in let e = c.written_of.ensures in omega arith

pub returns-then-m-lost : goal.returns-then-m-lost
returns-then-m-lost c = to_the_end (crc_by c.args.t.now) c.args.sum c.args.at _ c.if-m.false c.written_of.ensures c.lost_from-lost.ensures c.if-m-lost.true

pub returns-then-lost-lt8 : goal.returns-then-lost-lt8
returns-then-lost-lt8 c = in_opening (crc_by c.args.t.now) c.args.sum c.args.at _ c.if-m.false c.written_of.ensures c.lost_from-lost.ensures c.if-m-lost.false c.if-lost-lt8.true

pub overflow_add-result : goal.overflow_add-result
overflow_add-result c = let h = titled_most (crc_by c.args.t.now) _ _ (sym c.is_titled.ensures ∙ c.if-is_titled.true) in let e = c.carried_of.ensures in search rules

pub returns-then-is_titled : goal.returns-then-is_titled
returns-then-is_titled c = with_title (crc_by c.args.t.now) c.args.sum c.args.at _ c.if-m.false c.written_of.ensures c.lost_from-lost.ensures c.if-m-lost.false c.if-lost-lt8.false c.is_titled.ensures c.if-is_titled.true c.carried_of.ensures

pub returns : goal.returns
returns c = without (crc_by c.args.t.now) c.args.sum c.args.at _ c.if-m.false c.written_of.ensures c.lost_from-lost.ensures c.if-m-lost.false c.if-lost-lt8.false c.is_titled.ensures c.if-is_titled.false
