-- A whole message by itself, and one that is cut short. Assumes nothing.
use Rattle.std.proofs.Common.{◌≡◌, ℕ, ◌+◌, ◌<◌, ◌≤◌, ltb, List, length, take, sym, ap, arith, length-take-le, get_or-take, ltb-false, le-ltb, lt-ltb}
use Rattle.bits.proofs.Cases.{split}
use Rattle.wire.specs.declared.Frame.TheVariants.{Cut, Whole}
use Rattle.wire.specs.Reads.{frame_of, length_at}
use Rattle.wire.proofs.Frames.{whole_frame}

-- the first two bytes
length_less : (s : List ℕ) (n : ℕ) → 2 ≤ n → length_at (take n s) ≡ length_at s
length_less s n h = rw (get_or-take n s 0 0 (omega arith), get_or-take n s 1 0 (omega arith))

-- a whole message without what stands behind it
pub whole_alone : (s : List ℕ) (n : ℕ) → frame_of s ≡ Whole n → frame_of (take n s) ≡ Whole (length (take n s))
whole_alone s n e =
    let f = whole_frame s n e in
    let l = length-take-le n s f.within in
    rw (length_less s n (omega arith), l)
    (simp (le-ltb n 2 (omega arith), le-ltb (length_at s) 2 (omega arith), le-ltb 43 (length_at s) (omega arith), le-ltb n (length_at s + 2) (omega arith))
    (ap Whole (sym f.long)))

-- the front of a whole message is no whole message, and no length out of range stands there
pub front_cut : (m : List ℕ) (k : ℕ) → frame_of m ≡ Whole (length m) → k < length m → frame_of (take k m) ≡ Cut
front_cut m k e h =
    let f = whole_frame m (length m) e in
    let l : length (take k m) ≡ k = length-take-le k m (omega arith) in
    split (ltb k 2) (λ t. rw (l, t))
    (λ t.
    let two : 2 ≤ k = let z = ltb-false k 2 t in omega arith in
    rw (length_less m k two, l, t)
    (simp (le-ltb (length_at m) 2 (omega arith), le-ltb 43 (length_at m) (omega arith), lt-ltb k (length_at m + 2) (omega arith))))
