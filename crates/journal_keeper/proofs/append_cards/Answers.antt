-- `journal_keeper::append_cards` meets its contract: the numbers stand before the messages. Assumes nothing.
use Rattle.std.proofs.Common.{take, refl, inr}
use Rattle.journal_keeper.proofs.Adding.{moved_makes, if_ok}
use Rattle.bits.proofs.Cases.{clash}
use Rattle.journal_keeper.proofs.append_cards.Goals as goal

pub returns-then-j : goal.returns-then-j
returns-then-j c = λ numbers lent kept follows enough few.
    if_ok c.add.result (c.add.ensures numbers (take 168 c.args.bytes.now) lent (kept c.if-j.true) (inr (inr (refl, follows, enough, few, refl)))) (λ k a. (a.0, a.2))

pub returns : goal.returns
returns c = λ numbers lent kept follows enough few.
    moved_makes c.args.j c.args.next (take 168 c.args.bytes.now) c.moved.ensures (λ k. clash k c.if-j.false)
