-- A number below a bound, or none; and what a last line tells, or nothing. Assumes nothing.
use mathlib.Core.Path.{◌≡◌, refl, sym, ap}
use mathlib.Core.Bool.{true, false}
use Prim.Native.Nat.{ℕ, ◌≤◌, ◌<◌}
use lib.Dec.{ltb}
use borrow.Author.Tests.{ltb-true, ltb-false, lt-ltb, le-ltb}
use Rattle.std.specs.declared.option.Option.TheVariants.{Some, None}
use Rattle.std.proofs.lemmas.Option.{none-some, cond_some}
use Rattle.std.specs.declared.result.Result.{Result}
use Rattle.std.specs.declared.result.Result.TheVariants.{Ok, Err}
use Rattle.std.specs.Result.{is_ok}
use Rattle.bits.proofs.Cases.{split, clash}
use Rattle.drawing.specs.declared.Lift.{Lift}
use Rattle.drawing.specs.Private.{if_under, is_told, lift_line_told}

module _ (m n : ℕ) where
  pub is_below : {v : ℕ} → v ≡ n → v < m → Some v ≡ if_under m n
  is_below {v} e h = rw (sym e, lt-ltb v m h)

  pub is_past : m ≤ n → None ≡ if_under m n
  is_past h = rw (le-ltb n m h)

  -- which number it is, and that there is one
  pub below_is : {v : ℕ} → Some v ≡ if_under m n → v ≡ n
  below_is {v} e = sym (cond_some (ltb n m) n v (sym e)).1

  pub below_lt : {v : ℕ} → Some v ≡ if_under m n → n < m
  below_lt {v} e = ltb-true n m (cond_some (ltb n m) n v (sym e)).0

  pub none_below : None ≡ if_under m n → m ≤ n
  none_below e = split (ltb n m) (λ t. absurd (none-some n (rw t at e))) (λ t. ltb-false n m t)

-- what a last line tells
module _ (lift : Lift) where
  pub told_is : {l : Lift} → Some l ≡ lift_line_told lift → l ≡ lift
  told_is {l} e = sym (cond_some (is_told lift) lift l (sym e)).1

  pub is_told_lem : {l : Lift} → Some l ≡ lift_line_told lift → is_told lift ≡ true
  is_told_lem {l} e = (cond_some (is_told lift) lift l (sym e)).0

  pub not_told : None ≡ lift_line_told lift → is_told lift ≡ false
  not_told e = split (is_told lift) (λ t. absurd (none-some lift (rw t at e))) (λ t. t)

-- an answer isn't an error; two that are the same are of one value
pub ok_err : {A B C : Type 0} {x : A} {y : B} → ◌≡◌ {A = Result A B} (Ok x) (Err y) → C
ok_err e = clash refl (ap is_ok e)

pub same_err : {A B : Type 0} {x y : B} → ◌≡◌ {A = Result A B} (Err x) (Err y) → x ≡ y
same_err {A} {B} {x} {y} e = ap value e
  where
    value : Result A B → B
    value (Ok z) = x
    value (Err z) = z

pub same_ok : {A B : Type 0} {x y : A} → ◌≡◌ {A = Result A B} (Ok x) (Ok y) → x ≡ y
same_ok {A} {B} {x} {y} e = ap value e
  where
    value : Result A B → A
    value (Ok z) = z
    value (Err z) = x
