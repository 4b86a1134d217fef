-- `journal_keeper::note` meets its contract: a mark carries less than a message. Assumes nothing.
use Rattle.std.proofs.Common.{refl, inl, inr, arith, length-take-le}
use Rattle.bits.proofs.Cases.{clash}
use Rattle.journal_keeper.proofs.Adding.{if_ok}
use Rattle.journal_keeper.proofs.note.Goals as goal

pub returns-then-j : goal.returns-then-j
returns-then-j c = λ numbers lent kept end.
    let n = c.carried-n.ensures in
    let l = length-take-le _ c.args.left.now n.0 in
    if_ok c.add.result (c.add.ensures numbers numbers lent (kept c.if-j.true) (inr (inl (end, omega (arith, l, n.1), refl, refl)))) (λ k a. (a.0, (λ u v. a.1), a.2))

pub returns : goal.returns
returns c = λ numbers lent kept end. (refl, (λ u v. clash v c.if-j.false), kept)
