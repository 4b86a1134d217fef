-- `journal_keeper::append` meets its contract: messages are appended, or there are none. Assumes nothing.
use Rattle.std.proofs.Common.{refl, inl, ltb-true}
use Rattle.journal_keeper.proofs.Adding.{still, moved_makes, if_ok}
use Rattle.bits.proofs.Cases.{both}
use Rattle.journal_keeper.proofs.append.Goals as goal

pub returns-then-j-bytes : goal.returns-then-j-bytes
returns-then-j-bytes c = λ numbers lent kept follows few.
    let t = both _ _ c.if-j-bytes.true in
    if_ok c.add.result (c.add.ensures numbers numbers lent (kept t.0) (inl (refl, follows, ltb-true 0 _ t.1, few, refl))) (λ k a. (a.0, a.2))

pub returns : goal.returns
returns c = λ numbers lent kept follows few.
    moved_makes c.args.j c.args.next numbers c.moved.ensures (still c.args.j.kept c.args.j.station c.args.next c.args.bytes.now numbers c.if-j-bytes.false follows kept)
