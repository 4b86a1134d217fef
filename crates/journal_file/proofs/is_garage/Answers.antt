use mathlib.Core.Path.{◌≡◌}
use mathlib.Core.Bool.{true, false}
use Prim.Native.Nat.{ℕ, ◌<◌}
use borrow.Author.Rules.{rules}
use borrow.Author.Tests.{tests}
use lib.ListN.{length, get_or}
use Rattle.std.proofs.lemmas.Iterator.{cases_from_all, YieldsList-from_slice}
use Rattle.journal_file.specs.Heads.{name_byte, is_garage}
use Rattle.journal_file.proofs.Names.{too_short, too_long, every_byte}
use Rattle.journal_file.proofs.is_garage.Goals as goal

pub returns-then-word-lt1 : goal.returns-then-word-lt1
returns-then-word-lt1 c = too_short c.args.word.now c.if-word-lt1.true

pub returns-then-word-gt40 : goal.returns-then-word-gt40
returns-then-word-gt40 c = too_long c.args.word.now c.if-word-lt1.false c.if-word-gt40.true

pub returns : goal.returns
returns c =
    every_byte c.args.word.now c.if-word-lt1.false c.if-word-gt40.false c.all.result
    (cases_from_all _ _ _ (λ b. name_byte b ≡ true) (λ b. name_byte b ≡ false) c.all.ensures.ran (YieldsList-from_slice c.args.word.now cc)
    (λ x q k. search rules) (λ x q k. search rules))
