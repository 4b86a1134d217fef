-- What five bytes say depends on them alone, so an instruction says the same in a message and in a set. Assumes nothing.
use mathlib.Core.Path.{◌≡◌, refl, sym, ◌∙◌, ap}
use mathlib.Core.Bool.{Bool}
use mathlib.Core.List.{List}
use Prim.Native.Nat.{ℕ, zero, suc, ◌+◌, ◌*◌, ◌≤◌, ◌<◌}
use native.Mathlib.Omega.{arith}
use borrow.Author.Tests.{le-ltb}
use lib.ListN.{get_or, length, take, drop, length-drop}
use lib.Seq.{get_or-drop, get_or-take}
use Rattle.bits.specs.Search.{least}
use Rattle.rules.specs.Codes.{read_bytes}
use Rattle.wire.specs.Reads.{is_bad, bad_in}

pub least_same : (n : ℕ) (p q : ℕ → Bool) → ((j : ℕ) → j < n → p j ≡ q j) → least n p ≡ least n q
unfolding least
least_same zero p q e = refl
least_same (suc n) p q e = rw (e 0 (omega arith), least_same n (λ j. p (suc j)) (λ j. q (suc j)) (λ j h. e (suc j) (omega arith)))

-- two runs that begin with the same five bytes
read_same : (s t : List ℕ) → 5 ≤ length s → 5 ≤ length t → ((i : ℕ) → i < 5 → get_or s i 0 ≡ get_or t i 0) → read_bytes s ≡ read_bytes t
unfolding read_bytes
read_same s t hs ht e =
    rw (le-ltb _ _ hs, le-ltb _ _ ht, e 0 (omega arith), e 1 (omega arith), e 2 (omega arith), e 3 (omega arith), e 4 (omega arith))

-- the first n instructions of two runs that begin with the same 5n bytes
pub bad_same : (s t : List ℕ) (n : ℕ) → 5 * n ≤ length s → 5 * n ≤ length t → take (5 * n) s ≡ take (5 * n) t
    → least n (bad_in s) ≡ least n (bad_in t)
bad_same s t n hs ht e = least_same n (bad_in s) (bad_in t) (λ j h. ap is_bad (read_same (drop (5 * j) s) (drop (5 * j) t)
    (long s j h hs) (long t j h ht) (λ i l. get_or-drop (5 * j) s i 0 ∙ at j i h l ∙ sym (get_or-drop (5 * j) t i 0))))
  where
    long : (r : List ℕ) (j : ℕ) → j < n → 5 * n ≤ length r → 5 ≤ length (drop (5 * j) r)
    long r j h l = simp length-drop (omega arith)

    at : (j i : ℕ) → j < n → i < 5 → get_or s (5 * j + i) 0 ≡ get_or t (5 * j + i) 0
    at j i h l = let b : 5 * j + i < 5 * n = omega arith in
        sym (get_or-take (5 * n) s (5 * j + i) 0 b) ∙ ap (λ (r : List ℕ). get_or r (5 * j + i) 0) e ∙ get_or-take (5 * n) t (5 * j + i) 0 b
