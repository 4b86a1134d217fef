-- Tests of all numbers below a bound. Assumes nothing.
use Rattle.std.specs.Prelude.{◌≡◌, ℕ, zero, suc, ◌<◌, Bool, true, false, cond, ◌&&◌, ◌||◌}

-- some number below n passes
unfoldable pub some : ℕ → (ℕ → Bool) → Bool
some zero p = false
some (suc n) p = p n || some n p

-- every number below n passes
unfoldable pub every : ℕ → (ℕ → Bool) → Bool
every zero p = true
every (suc n) p = p n && every n p

-- the least number below n that passes, or n where none does
unfoldable pub least : ℕ → (ℕ → Bool) → ℕ
least zero p = 0
least (suc n) p = cond (p 0) 0 (suc (least n (λ j. p (suc j))))

-- k is the least number below n that passes: it is below n, it passes, and none before it does
pub record IsLeast (n : ℕ) (p : ℕ → Bool) (k : ℕ) : Type 0 where
  pub within : k < n
  pub passes : p k ≡ true
  pub none : (i : ℕ) → i < k → p i ≡ false
