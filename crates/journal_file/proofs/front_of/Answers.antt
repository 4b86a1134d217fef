use Rattle.journal_file.proofs.Fronts.{titled_most, too_few, untitled, ends_inside, whole_at, wrong_at}
use Rattle.checksum.specs.Slices.{crc_by}
use Rattle.bits.proofs.Cases.{passed}
use mathlib.Core.Path.{◌∙◌}
use borrow.Author.Rules.{rules}
use Rattle.journal_file.proofs.front_of.Goals as goal

pub returns-then-m-lt8 : goal.returns-then-m-lt8
returns-then-m-lt8 c = c.no_front.ensures ∙ too_few (crc_by c.args.t.now) _ _ c.if-m-lt8.true

pub returns-then-not-is_titled : goal.returns-then-not-is_titled
returns-then-not-is_titled c = c.no_front-then-not-is_titled.ensures ∙ untitled (crc_by c.args.t.now) _ _ c.if-m-lt8.false c.is_titled.ensures c.if-not-is_titled.true-raw

pub overflow_add-n : goal.overflow_add-n
overflow_add-n c = let h = titled_most (crc_by c.args.t.now) _ _ (passed c.is_titled.ensures c.if-not-is_titled.false-raw) in let e = c.carried_of-n.ensures in search rules

pub returns-then-m-n : goal.returns-then-m-n
returns-then-m-n c = c.no_front-then-m-n.ensures ∙ ends_inside (crc_by c.args.t.now) _ _ c.if-m-lt8.false c.is_titled.ensures c.if-not-is_titled.false-raw c.carried_of-n.ensures c.if-m-n.true

pub returns-then-is_carried : goal.returns-then-is_carried
returns-then-is_carried c = whole_at (crc_by c.args.t.now) _ _ c.if-m-lt8.false c.is_titled.ensures c.if-not-is_titled.false-raw c.carried_of-n.ensures c.if-m-n.false c.is_carried.ensures c.if-is_carried.true c.four_at.ensures

pub returns : goal.returns
returns c = c.no_front-2.ensures ∙ wrong_at (crc_by c.args.t.now) _ _ c.if-m-lt8.false c.is_titled.ensures c.if-not-is_titled.false-raw c.carried_of-n.ensures c.if-m-n.false c.is_carried.ensures c.if-is_carried.false
