-- Bytes put at the front of a room, turn by turn. Assumes nothing.
use mathlib.Core.Path.{◌≡◌, refl, sym, ap, ◌∙◌}
use mathlib.Core.List.{List, ◌++◌}
use Prim.Native.Nat.{ℕ, ◌+◌, ◌≤◌, ◌<◌}
use native.Mathlib.Omega.{arith}
use native.Mathlib.Numerals.{add-one}
use lib.ListN.{length, get_or, set, take, drop}
use lib.Seq.{paste, paste-zero, paste-suc}
use Rattle.codec.specs.Copies.{Copied}

pub none_copied : (src room : List ℕ) → room ≡ paste room 0 src 0
none_copied src room = paste-zero room 0 src

pub one_copied : (src room now : List ℕ) (i : ℕ) → length src ≤ length room → i < length src → now ≡ paste room 0 src i
    → set now i (get_or src i 0) ≡ paste room 0 src (i + 1)
one_copied src room now i h l e =
    let z : i ≡ 0 + i = omega arith in
    ap (λ (r : List ℕ). set r i (get_or src i 0)) e
    ∙ ap (λ (k : ℕ). set (paste room 0 src i) k (get_or src i 0)) z
    ∙ paste-suc room 0 src i 0 (omega arith) l
    ∙ ap (paste room 0 src) (sym (add-one i))

pub all_copied : (src room now : List ℕ) (i : ℕ) → length src ≤ length room → i ≤ length src → length src ≤ i → now ≡ paste room 0 src i
    → Copied src room (length src) now
all_copied src room now i h most least e =
    let n : i ≡ length src = omega arith in
    let z : 0 + length src ≡ length src = omega arith in
    record {
      all = λ _. (refl, e ∙ ap (paste room 0 src) n ∙ ap (λ (k : ℕ). take (length src) src ++ drop k room) z);
      none = λ short. absurd (omega arith);
    }
