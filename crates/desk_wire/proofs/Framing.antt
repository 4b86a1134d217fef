-- What a frame of some greatest length says of the bytes that it is taken from, and that a message is read from exactly its own bytes.
-- Assumes nothing.
use mathlib.Core.Path.{◌≡◌, sym, ◌∙◌, ap}
use mathlib.Core.List.{List, ◌++◌}
use Prim.Native.Nat.{ℕ, ◌+◌, ◌≤◌}
use native.Mathlib.Omega.{arith}
use borrow.Author.Tests.{le-ltb, ltb-false}
use lib.Dec.{ltb}
use lib.ListN.{length, take, length-append, get_or-append}
use lib.Seq.{get_or-take, length-take-le, take-append_seam}
use Rattle.wire.specs.declared.Frame.{Frame}
use Rattle.wire.specs.declared.Frame.TheVariants.{Cut, Wrong, Whole}
use Rattle.wire.specs.Kinds.{SizedKind}
use Rattle.wire.specs.Reads.{length_at, kind_at}
use Rattle.wire.proofs.Frames.{when}
use Rattle.desk_wire.specs.Shapes.{Shape}
use Rattle.desk_wire.specs.DeskReads.{frame_up_to, read_shaped, read_shaped_in, read_up_to}

-- a message that is whole: its length is in its range, and its bytes are there
pub record FramedUpTo (most : ℕ) (s : List ℕ) (n : ℕ) : Type 0 where
  pub long : n ≡ length_at s + 2
  pub low : 4 ≤ n
  pub high : n ≤ most + 2
  pub within : n ≤ length s

pub whole_up : (most : ℕ) (s : List ℕ) (n : ℕ) → frame_up_to most s ≡ Whole n → FramedUpTo most s n
whole_up most s n e =
    when (ltb (length s) 2) Cut _ _ e (λ _ e. no e)
    (λ _ e. when (ltb (length_at s) 2) Wrong _ _ e (λ _ e. no2 e)
    (λ a e. when (ltb most (length_at s)) Wrong _ _ e (λ _ e. no2 e)
    (λ b e. when (ltb (length s) (length_at s + 2)) Cut _ _ e (λ _ e. no e)
    (λ c e.
    let l : n ≡ length_at s + 2 = same e in
    let a = ltb-false (length_at s) 2 a in
    let b = ltb-false most (length_at s) b in
    let c = ltb-false (length s) (length_at s + 2) c in
    record { long = l; low = omega arith; high = omega arith; within = omega arith }))))
  where
    no : Cut ≡ Whole n → FramedUpTo most s n
    no e = absurd (let z : ◌≡◌ {A = ℕ} 0 1 = cc in omega arith)

    no2 : Wrong ≡ Whole n → FramedUpTo most s n
    no2 e = absurd (let z : ◌≡◌ {A = ℕ} 0 1 = cc in omega arith)

    same : Whole (length_at s + 2) ≡ Whole n → n ≡ length_at s + 2
    same e = cc

pub framed_up : (most : ℕ) (s : List ℕ) (n : ℕ) → FramedUpTo most s n → frame_up_to most s ≡ Whole n
framed_up most s n f =
    let a = f.long in
    let b = f.low in
    let c = f.high in
    let d = f.within in
    simp (le-ltb (length s) 2 (omega arith), le-ltb (length_at s) 2 (omega arith), le-ltb most (length_at s) (omega arith), le-ltb (length s) (length_at s + 2) (omega arith))
    (ap Whole (sym a))

-- the bytes of the first message of s
pub record CutUpTo (s m : List ℕ) (n : ℕ) : Type 0 where
  pub size : length m ≡ n
  pub long : length_at m + 2 ≡ length m
  pub kind : kind_at m ≡ kind_at s

pub cut_up : (most : ℕ) (s : List ℕ) (n : ℕ) → FramedUpTo most s n → CutUpTo s (take n s) n
cut_up most s n f =
    let l = length-take-le n s f.within in
    let low = f.low in
    let a = get_or-take n s 0 0 (omega arith) in
    let b = get_or-take n s 1 0 (omega arith) in
    let c = get_or-take n s 2 0 (omega arith) in
    let d = get_or-take n s 3 0 (omega arith) in
    record { size = l; long = rw (a, b, l) (sym f.long); kind = rw (c, d) }

-- a message, whatever follows it, is read from exactly its own bytes
pub read_up : (most : ℕ) (ks : List SizedKind) (shapes : List Shape) (m t : List ℕ)
    → length_at m + 2 ≡ length m → 4 ≤ length m → length m ≤ most + 2 → read_up_to most ks shapes (m ++ t) ≡ read_shaped ks shapes m
read_up most ks shapes m t e l h =
    let a = get_or-append m t 0 0 (omega arith) in
    let b = get_or-append m t 0 1 (omega arith) in
    let f : frame_up_to most (m ++ t) ≡ Whole (length m) = framed_up most (m ++ t) (length m)
    (record { long = rw (a, b) (sym e); low = l; high = h; within = rw (length-append m t) (omega arith) }) in
    ap (λ (g : Frame). read_shaped_in ks shapes g (m ++ t)) f ∙ ap (read_shaped ks shapes) (take-append_seam m t)
