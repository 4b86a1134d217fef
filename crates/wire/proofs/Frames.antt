-- What a frame says of the bytes that it is taken from. Assumes nothing.
use mathlib.Core.Path.{◌≡◌, refl}
use mathlib.Core.Bool.{Bool, true, false, cond}
use mathlib.Core.List.{List}
use Prim.Native.Nat.{ℕ, ◌+◌, ◌≤◌}
use native.Mathlib.Omega.{arith}
use borrow.Author.Tests.{ltb-false}
use lib.Dec.{ltb}
use lib.ListN.{length}
use Rattle.wire.specs.declared.Frame.TheVariants.{Cut, Wrong, Whole}
use Rattle.wire.specs.Reads.{frame_of, length_at}

-- a message that is whole: its length is in its range, and its bytes are there
pub record Framed (s : List ℕ) (n : ℕ) : Type 0 where
  pub long : n ≡ length_at s + 2
  pub low : 4 ≤ n
  pub high : n ≤ 45
  pub within : n ≤ length s

-- which way a test went
pub when : {A G : Type 0} (t : Bool) (x y r : A) → cond t x y ≡ r → (t ≡ true → x ≡ r → G) → (t ≡ false → y ≡ r → G) → G
when true x y r e f g = f refl e
when false x y r e f g = g refl e

pub whole_frame : (s : List ℕ) (n : ℕ) → frame_of s ≡ Whole n → Framed s n
whole_frame s n e =
    when (ltb (length s) 2) Cut _ _ e (λ _ e. no e)
    (λ _ e. when (ltb (length_at s) 2) Wrong _ _ e (λ _ e. no2 e)
    (λ a e. when (ltb 43 (length_at s)) Wrong _ _ e (λ _ e. no2 e)
    (λ b e. when (ltb (length s) (length_at s + 2)) Cut _ _ e (λ _ e. no e)
    (λ c e.
    let l : n ≡ length_at s + 2 = same e in
    let a = ltb-false (length_at s) 2 a in
    let b = ltb-false 43 (length_at s) b in
    let c = ltb-false (length s) (length_at s + 2) c in
    record { long = l; low = omega arith; high = omega arith; within = omega arith }))))
  where
    no : Cut ≡ Whole n → Framed s n
    no e = absurd (let z : ◌≡◌ {A = ℕ} 0 1 = cc in omega arith)

    no2 : Wrong ≡ Whole n → Framed s n
    no2 e = absurd (let z : ◌≡◌ {A = ℕ} 0 1 = cc in omega arith)

    same : Whole (length_at s + 2) ≡ Whole n → n ≡ length_at s + 2
    same e = cc
