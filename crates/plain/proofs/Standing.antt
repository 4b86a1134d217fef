-- A floor's bits, each by what it stands for; the count of neighbouring cells as a loop counts it, and masks without a gap.
-- Assumes nothing.
use mathlib.Core.Path.{◌≡◌, refl, sym, ap, ap₂, ◌∙◌}
use mathlib.Core.Bool.{Bool, true, false, not, ◌&&◌, ◌||◌, and-true, and_assoc}
use Prim.Native.Nat.{ℕ, zero, suc, ◌+◌, ◌-◌, ◌≤◌, ◌<◌}
use native.Mathlib.Omega.{arith}
use native.Mathlib.Numerals.{add-one}
use lib.Dec.{eqb}
use lib.ListN.{get_or}
use mir.Val.{bool_byte}
use borrow.Author.Tests.{lt-ltb, le-ltb}
use Rattle.bits.specs.Bits.{Bits, bit, digit, count}
use Rattle.bits.specs.Places.{from}
use Rattle.bits.proofs.Counts.{count_more, count_le, length_from}
use Rattle.bits.proofs.Packing.{byte_digit}
use Rattle.floor.specs.Floor.{height_low, height_high}
use Rattle.floor.specs.Tests.{holds, height_is}
use Rattle.plain.specs.declared.Height.{Height}
use Rattle.plain.specs.declared.Height.TheVariants.{Street, Rotation, Basement}
use Rattle.plain.specs.declared.Floor.{Floor}
use Rattle.plain.specs.Plain.{height_number, plain_bits}
use Rattle.plain.specs.Private.{gapless_from, gapless}

-- ---- cells, slots and the height

pub cell_bit : (f : Floor) (k : ℕ) → k < 40 → get_or f.cells k false ≡ plain_bits f k
unfolding plain_bits
cell_bit f k h = rw (lt-ltb k 40 h)

pub slot_bit : (f : Floor) (j k : ℕ) → j < 12 → k ≡ 40 + j → get_or f.slots j false ≡ plain_bits f k
unfolding plain_bits
slot_bit f j k h e =
    let i : k - 40 ≡ j = omega arith in
    rw (le-ltb k 40 (omega arith), lt-ltb k 52 (omega arith), i)

-- a height is told by its two digits
digits : (x : Height) (g : Bits) → g height_low ≡ bit (height_number x) 0 → g height_high ≡ bit (height_number x) 1
    → (h : ℕ) → h ≤ 2 → eqb h (height_number x) ≡ holds (height_is h) g
digits Street g p q zero l = simp (p, q)
digits Street g p q (suc zero) l = simp (p, q)
digits Street g p q (suc (suc zero)) l = simp (p, q)
digits Rotation g p q zero l = simp (p, q)
digits Rotation g p q (suc zero) l = simp (p, q)
digits Rotation g p q (suc (suc zero)) l = simp (p, q)
digits Basement g p q zero l = simp (p, q)
digits Basement g p q (suc zero) l = simp (p, q)
digits Basement g p q (suc (suc zero)) l = simp (p, q)
digits x g p q (suc (suc (suc h))) l = absurd (omega arith)

pub at_height : (f : Floor) (h : ℕ) → h ≤ 2 → {x : Height} → f.height ≡ x → eqb h (height_number x) ≡ holds (height_is h) (plain_bits f)
unfolding plain_bits
at_height f h l {x} e = ap (λ (y : Height). eqb h (height_number y)) (sym e) ∙ digits f.height (plain_bits f) refl refl h l

-- ---- a loop that counts neighbouring cells

pub counted : (f : Bits) (a j : ℕ) {m : ℕ} {b : Bool} → m ≡ count (from a j) f → b ≡ f (a + j) → m + bool_byte b ≡ count (from a (j + 1)) f
counted f a j {m} {b} e d =
    ap₂ ◌+◌ e (byte_digit b ∙ ap digit d) ∙ sym (count_more f a j) ∙ ap (λ (n : ℕ). count (from a n) f) (sym (add-one j))

pub few : (f : Bits) (a n : ℕ) → count (from a n) f ≤ n
few f a n = omega (arith, count_le (from a n) f, length_from a n)

-- ---- a loop over the bits of a mask that looks for a gap

-- n bits of it are passed: whether there is no gap so far and in what is left is whether there is none at all
pub record Passed (mask n : ℕ) (fine begun before : Bool) : Type 0 where
  pub within : n ≤ 5
  pub left : fine && gapless_from (5 - n) n begun before mask ≡ gapless mask

pub pass_starts : (mask : ℕ) → Passed mask 0 true false false
pass_starts mask = record { within = omega arith; left = refl }

one_more : (mask m n : ℕ) (fine begun before : Bool) {here : Bool} → here ≡ bit mask n
    → (fine && not (here && begun && not before)) && gapless_from m (n + 1) (begun || here) here mask ≡ fine && gapless_from (suc m) n begun before mask
unfolding gapless_from
one_more mask m n fine begun before e =
    rw (e, add-one n) (and_assoc fine (not (bit mask n && begun && not before)) (gapless_from m (suc n) (begun || bit mask n) (bit mask n) mask))

pub passes : {mask n : ℕ} {fine begun before here : Bool} → Passed mask n fine begun before → n < 5 → here ≡ bit mask n
    → Passed mask (n + 1) (fine && not (here && begun && not before)) (begun || here) here
passes {mask} {n} {fine} {begun} {before} {here} v l e =
    let s : suc (5 - (n + 1)) ≡ 5 - n = omega arith in
    record {
      within = omega arith;
      left = one_more mask (5 - (n + 1)) n fine begun before e ∙ ap (λ (m : ℕ). fine && gapless_from m n begun before mask) s ∙ v.left;
    }

none_left : (mask n : ℕ) (fine begun before : Bool) → fine ≡ fine && gapless_from 0 n begun before mask
unfolding gapless_from
none_left mask n fine begun before = sym (and-true fine)

pub pass_ends : {mask n : ℕ} {fine begun before : Bool} → Passed mask n fine begun before → 5 ≤ n → fine ≡ gapless mask
pass_ends {mask} {n} {fine} {begun} {before} v l =
    let s : 0 ≡ 5 - n = omega arith in
    none_left mask n fine begun before ∙ ap (λ (m : ℕ). fine && gapless_from m n begun before mask) s ∙ v.left
