use native.Mathlib.Omega.{arith}
use Prim.Native.Nat.{ℕ, ◌≤◌, ◌<◌}
use mathlib.Core.Path.{◌≡◌, subst, ◌∙◌}
use Rattle.journal_file.proofs.Taking.{carries_more, closes, ends, no_kind}
use Rattle.journal_file.specs.Replaying.{mark_most}
use Rattle.journal_file.proofs.steps.take_mark.Goals as goal
use Rattle.journal_file.proofs.steps.take_mark.Goals.{in_default-via-then-f-lt2, in_default-via-else-f-lt2+else-f-lt4}

pub returns-then-mark_most-f : goal.returns-then-mark_most-f
returns-then-mark_most-f c = let args = c.args in c.not_taken.ensures ∙ carries_more args.r args.f (subst (λ (n : ℕ). n < args.f.carries) c.mark_most.ensures c.if-mark_most-f.true)

pub returns-in-4 : goal.returns-in-4
returns-in-4 c = let args = c.args in c.take.ensures ∙ closes args.r args.f (subst (λ (n : ℕ). args.f.carries ≤ n) c.mark_most.ensures c.if-mark_most-f.false) c.in-4.is

pub returns-in-2 : goal.returns-in-2
returns-in-2 c = let args = c.args in c.take-in-2.ensures ∙ ends args.r args.f (subst (λ (n : ℕ). args.f.carries ≤ n) c.mark_most.ensures c.if-mark_most-f.false) (omega arith) (omega arith)

pub returns-in_default : goal.returns-in_default
returns-in_default c =
    let f = c.args.f in
    let m : f.carries ≤ mark_most f.kind = subst (λ (n : ℕ). f.carries ≤ n) c.mark_most.ensures c.if-mark_most-f.false in
    let other : (n : ℕ) → 2 ≤ n → n ≤ 4 → f.kind ≡ n → ⊥ =
    λ n a b e. elim c.in_default.branch [ in_default-via-then-f-lt2 w ↦ omega arith | in_default-via-else-f-lt2+else-f-lt4 w ↦ omega arith ] in
    c.not_taken-in_default.ensures ∙ no_kind c.args.r f m (other 4 (omega arith) (omega arith)) (other 2 (omega arith) (omega arith)) (other 3 (omega arith) (omega arith))
