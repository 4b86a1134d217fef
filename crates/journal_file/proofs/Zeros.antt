-- The bytes up to the last that is not zero, and the first sector behind them. Assumes nothing.
use mathlib.Core.Path.{◌≡◌, refl, sym, ap, ◌∙◌}
use mathlib.Core.Bool.{Bool, true, false, cond, not}
use mathlib.Core.List.{List, [], ◌∷◌}
use Prim.Native.Nat.{ℕ, zero, suc, ◌+◌, ◌-◌, ◌%◌, ◌≤◌, ◌<◌}
use native.Mathlib.Omega.{arith}
use native.Mathlib.Numerals.{add-one}
use borrow.Author.Tests.{eq-eqb, ne_eqb, lt-ltb, le-ltb, le-leb, lt-leb}
use lib.Dec.{eqb}
use lib.ListN.{length, get_or}
use Rattle.std.specs.Option.{MatchOption}
use Rattle.std.specs.declared.option.Option.{Option}
use Rattle.std.specs.declared.option.Option.TheVariants.{Some, None}
use Rattle.bits.proofs.Cases.{split}
use Rattle.journal_file.specs.Appends.{Over, carried_of, titled, written, lost_from, zeroed}

-- from its last byte on that is not zero a run is zero, or all of it is
abbrev pub Last : List ℕ → Option ℕ → Type 0
Last m o =
    MatchOption o ((k : ℕ) → k < length m → get_or m k 0 ≡ 0)
    (λ i. (i < length m) × (get_or m i 0 ≡ 0 → ⊥) × ((k : ℕ) → i < k → k < length m → get_or m k 0 ≡ 0))

none_written : (m : List ℕ) → ((k : ℕ) → k < length m → get_or m k 0 ≡ 0) → 0 ≡ written m
none_written [] z = refl
none_written (b ∷ m) z =
    let rest : written m ≡ 0 = sym (none_written m (λ k h. z (suc k) (omega arith))) in
    let here : b ≡ 0 = z 0 (omega arith) in
    rw (rest, here)

last_written : (m : List ℕ) (i : ℕ) → Last m (Some i) → suc i ≡ written m
last_written [] i l = absurd (omega (arith, l.0))
last_written (b ∷ m) zero l =
    let rest : written m ≡ 0 = sym (none_written m (λ k h. l.2 (suc k) (omega arith) (omega arith))) in
    rw (rest, ne_eqb b 0 l.1)
last_written (b ∷ m) (suc i) l =
    let rest : written m ≡ suc i = sym (last_written m i (omega (arith, l.0), l.1, λ k g h. l.2 (suc k) (omega arith) (omega arith))) in
    rw (rest, ne_eqb (suc i) 0 (λ (q : suc i ≡ 0). omega arith))

pub written_by : (m : List ℕ) (o : Option ℕ) {n : ℕ} → Last m o → MatchOption o (n ≡ 0) (λ i. n ≡ i + 1) → n ≡ written m
written_by m None l e = e ∙ none_written m l
written_by m (Some i) l e = e ∙ add-one i ∙ last_written m i l

-- ---- the first sector

pub from_start : (at n : ℕ) → n ≡ 0 → 0 ≡ lost_from at n
from_start at n t = rw (eq-eqb n 0 t)

pub from_sector : (at n : ℕ) → (n ≡ 0 → ⊥) → n + (512 - (at % 512 + n) % 512) % 512 ≡ lost_from at n
from_sector at n t =
    let e : (at % 512 + n) % 512 ≡ (at + n) % 512 = omega arith in
    rw (ne_eqb n 0 t) (ap (λ (k : ℕ). n + (512 - k) % 512) e)

-- no more are written than there are
pub written_most : (m : List ℕ) → written m ≤ length m
written_most [] = omega arith
written_most (b ∷ m) =
    let h = written_most m in
    split (eqb (written m) 0)
    (λ t. rw t (split (eqb b 0) (λ u. rw u (omega arith)) (λ u. rw u (omega arith))))
    (λ t. rw t (omega arith))

-- ---- cut off, case by case

module _ (over : Over) (sum at : ℕ) (m : List ℕ) where
  pub too_long : 65549 < length m → false ≡ zeroed over sum at m
  unfolding zeroed
  too_long h = rw (lt-ltb 65549 (length m) h)

  module _ {n lost : ℕ} (h : length m ≤ 65549) (e : n ≡ written m) (f : lost ≡ lost_from at n) where
    is : lost_from at (written m) ≡ lost
    is = sym (f ∙ ap (lost_from at) e)

    pub to_the_end : length m ≤ lost → false ≡ zeroed over sum at m
    unfolding zeroed
    to_the_end k = rw (le-ltb 65549 (length m) h, is, le-leb (length m) lost k)

    pub in_opening : lost < length m → lost < 8 → true ≡ zeroed over sum at m
    unfolding zeroed
    in_opening k u = rw (le-ltb 65549 (length m) h, is, lt-leb (length m) lost k, lt-ltb lost 8 u)

    pub with_title : {b : Bool} {c : ℕ} → lost < length m → 8 ≤ lost → b ≡ titled over sum m → b ≡ true → c ≡ carried_of m
        → eqb (length m) (c + 13) ≡ zeroed over sum at m
    unfolding zeroed
    with_title k u t v w = rw (le-ltb 65549 (length m) h, is, lt-leb (length m) lost k, le-ltb lost 8 u, sym t ∙ v, w)

    pub without : {b : Bool} → lost < length m → 8 ≤ lost → b ≡ titled over sum m → b ≡ false → false ≡ zeroed over sum at m
    unfolding zeroed
    without k u t v = rw (le-ltb 65549 (length m) h, is, lt-leb (length m) lost k, le-ltb lost 8 u, sym t ∙ v)
