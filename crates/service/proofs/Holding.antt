-- Bytes held at the front of a buffer: a bound past its end is its end. Assumes nothing.
use mathlib.Core.Path.{◌≡◌, refl, sym, ◌∙◌}
use mathlib.Core.List.{List, ◌++◌}
use Prim.Native.Nat.{ℕ, ◌-◌, ◌≤◌, min}
use native.Mathlib.Nat.{min-eq_left}
use native.Mathlib.Omega.{arith}
use borrow.Author.Tests.{leb-true, leb-false}
use lib.Dec.{leb}
use lib.ListN.{length, take, drop, length-take, length-drop, drop_of_length-le}
use lib.Seq.{slice, take_all}
use Rattle.bits.proofs.Cases.{split}
use Rattle.service.specs.Turns.{Holds, holding_front}

pub cut_at_end : (n : ℕ) (xs : List ℕ) → take (min n (length xs)) xs ≡ take n xs
cut_at_end n xs =
    split (leb n (length xs)) (λ e. rw (min-eq_left (leb-true n (length xs) e)))
    (λ e. let h = leb-false n (length xs) e in take_all (min n (length xs)) xs (omega arith) ∙ sym (take_all n xs (omega arith)))

module _ (from to : ℕ) (buf : List ℕ) where
  slice_length : length (slice from to buf) ≡ min to (length buf) - from
  slice_length = length-drop from (take to buf) ∙ rw (length-take to buf)

  pub none_held : min to (length buf) ≤ from → Holds (holding_front from to buf) 0 buf
  unfolding holding_front
  none_held h =
      let l = length-take to buf in
      rw (drop_of_length-le (take to buf) {i = from} (omega arith)) (refl, refl)

  pub some_held : (end : ℕ) (after : List ℕ) → end ≡ min to (length buf) → after ≡ slice from end buf ++ drop (end - from) buf → Holds (holding_front from to buf) (end - from) after
  unfolding holding_front
  some_held end after e h =
      (sym (rw e slice_length), h ∙ rw (e, ← slice_length, cut_at_end to buf))
