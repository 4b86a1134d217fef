-- A Result says one thing: what follows from two that are equal, and from one that a test chose. Assumes nothing.
use mathlib.Core.Path.{◌≡◌, refl, sym}
use mathlib.Core.Bool.{Bool, true, false, cond}
use Prim.Native.Nat.{ℕ}
use native.Mathlib.Omega.{arith}
use Rattle.std.specs.declared.result.Result.{Result}
use Rattle.std.specs.declared.result.Result.TheVariants.{Ok, Err}
use Rattle.answers.specs.declared.Answer.{Answer}
use Rattle.answers.specs.Answers.{number_of}
use Rattle.wire.specs.Writes.{Written}

module _ {A E : Type 0} where
  pub no_both : {G : Type 0} {x : A} {a : E} → ◌≡◌ {A = Result A E} (Ok x) (Err a) → G
  no_both e = absurd (let z : ◌≡◌ {A = ℕ} 0 1 = cc in omega arith)

  pub same_ok : {x y : A} → ◌≡◌ {A = Result A E} (Ok x) (Ok y) → x ≡ y
  same_ok e = cc

  pub same_err : {a b : E} → ◌≡◌ {A = Result A E} (Err a) (Err b) → a ≡ b
  same_err e = cc

  pub chose_ok : (t : Bool) (x : A) (a : E) {y : A} → ◌≡◌ {A = Result A E} (cond t (Ok x) (Err a)) (Ok y) → (t ≡ true) × (x ≡ y)
  chose_ok true x a e = (refl, same_ok e)
  chose_ok false x a e = no_both (sym e)

  pub chose_err : (t : Bool) (x : A) (a : E) {b : E} → ◌≡◌ {A = Result A E} (cond t (Ok x) (Err a)) (Err b) → (t ≡ false) × (a ≡ b)
  chose_err true x a e = no_both e
  chose_err false x a e = (refl, same_err e)

-- the number and the size that a call which writes says, 0 where it says none
abbrev pub number_said : Written → ℕ
number_said (Ok n) = 0
number_said (Err a) = number_of a

abbrev pub size_said : Written → ℕ
size_said (Ok n) = n
size_said (Err a) = 0
