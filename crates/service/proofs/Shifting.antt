-- Bytes moved to the front of a buffer, one by one: what lies ahead of those that are moved is still as it was. Assumes nothing.
use mathlib.Core.Path.{◌≡◌, refl, sym, ◌∙◌}
use mathlib.Core.List.{List, ◌++◌, append_assoc}
use Prim.Native.Nat.{ℕ, suc, ◌+◌, ◌-◌, ◌≤◌, ◌<◌}
use native.Mathlib.Nat.{add_comm}
use native.Mathlib.Numerals.{add-one}
use native.Mathlib.Omega.{arith}
use lib.ListN.{length, take, drop, get_or, set}
use lib.Seq.{slice, length-slice, length-take-le, take_all, take-suc, drop-cons, set_at, get_or-append-add, get_or-drop, get_or-take}

-- i of the bytes from `from` up to `to` are moved
pub record Shifted (before : List ℕ) (from to i : ℕ) (buf : List ℕ) : Type 0 where
  pub some : i ≤ to - from
  pub front : buf ≡ take i (slice from to before) ++ drop i before

pub nothing_moved : (before : List ℕ) (from to : ℕ) → Shifted before from to 0 before
nothing_moved before from to = record { some = omega arith; front = refl }

module _ {before : List ℕ} {from to i : ℕ} {buf : List ℕ} (fits : to ≤ length before) (s : Shifted before from to i buf) where
  moved_length : length (take i (slice from to before)) ≡ i
  moved_length = length-take-le i (slice from to before) (let l = length-slice from to before fits in let h = s.some in omega arith)

  next : i < to - from → get_or buf (from + i) 0 ≡ get_or (slice from to before) i 0
  next h =
      let moved = take i (slice from to before) in
      let e : from + i ≡ length moved + from = add_comm from i ∙ rw moved_length in
      rw (s.front, e)
      (get_or-append-add moved (drop i before) from 0
      ∙ get_or-drop i before from 0
      ∙ rw (add_comm i from) (sym (get_or-drop from (take to before) i 0 ∙ get_or-take to before (from + i) 0 (omega arith))))

  pub one_moved : i < to - from → Shifted before from to (i + 1) (set buf i (get_or buf (from + i) 0))
  one_moved h =
      let part = slice from to before in
      let l = length-slice from to before fits in
      record {
        some = omega arith;
        front =
            rw (next h, s.front, add-one i, drop-cons before i 0 (omega arith))
            (set_at (take i part) (get_or before i 0) (drop (suc i) before) (get_or part i 0) i moved_length
            ∙ rw (take-suc part i 0 (omega arith)) (simp append_assoc));
      }

  pub all_moved : to - from ≤ i → buf ≡ slice from to before ++ drop (to - from) before
  all_moved h =
      let e : i ≡ to - from = let k = s.some in omega arith in
      let l = length-slice from to before fits in
      s.front ∙ rw (e, take_all (to - from) (slice from to before) (omega arith))
