-- Parts by their bits: one that is asked for, their number, whether two have one in common, and those of both. Assumes nothing.
use mathlib.Core.Path.{◌≡◌, refl, sym, ap, ap₂, ◌∙◌}
use mathlib.Core.Bool.{Bool, true, false, cond, ◌&&◌, ◌||◌}
use mathlib.Core.List.{List}
use Prim.Native.Nat.{ℕ, ◌+◌, ◌-◌, ◌≤◌, ◌<◌}
use native.Mathlib.Omega.{arith}
use lib.Dec.{eqb, ltb}
use lib.ListN.{get_or}
use borrow.Author.Tests.{lt-ltb, le-ltb}
use Rattle.bits.specs.Bits.{Bits, bit, image}
use Rattle.bits.proofs.Cases.{split}
use Rattle.bits.proofs.Digits.{image_ext}
use Rattle.bits.proofs.Least.{Passed}
use Rattle.bits.proofs.Search.{some_at, none_is}
use Rattle.floor.specs.Floor.{raised_car}
use Rattle.plain.specs.declared.Floor.{Floor}
use Rattle.plain.specs.declared.Height.TheVariants.{Street}
use Rattle.plain.specs.Plain.{listed, plain_bits, floor_of}
use Rattle.plain_moves.specs.declared.Parts.{Parts}
use Rattle.plain_moves.specs.Moves.{parts_bits, parts_of, meeting, together}

-- ---- a part

module _ (p : Parts) (k : ℕ) where
  pub cell_part : k < 40 → get_or p.cells k false ≡ parts_bits p k
  unfolding parts_bits
  cell_part h = rw (lt-ltb k 40 h)

  pub slot_part : 40 ≤ k → k < 52 → get_or p.slots (k - 40) false ≡ parts_bits p k
  unfolding parts_bits
  slot_part l h = rw (le-ltb k 40 l, lt-ltb k 52 h)

  pub lift_part : 52 ≤ k → eqb k raised_car && p.lift ≡ parts_bits p k
  unfolding parts_bits
  lift_part l = rw (le-ltb k 40 (omega arith), le-ltb k 52 l)

-- ---- as a number

-- the floor that has these parts and nothing else
abbrev pub floor_with : Parts → Floor
floor_with p = record { cells = p.cells; slots = p.slots; car = p.lift; height = Street; coming = false; going = false }

pub number_is : (p : Parts) → image (plain_bits (floor_with p)) ≡ image (parts_bits p)
unfolding plain_bits parts_bits
number_is p = image_ext (plain_bits (floor_with p)) (parts_bits p) (λ k h. split (ltb k 40)
    (λ t. rw t)
    (λ t. split (ltb k 52) (λ u. rw (t, u)) (λ u. rw (t, u) (go (eqb k 52) (eqb k 53) (eqb k 54) (eqb k 55) (eqb k 56) p.lift))))
  where
    go : (a b c d e l : Bool) → cond a l (cond b false (cond c false (cond d false (cond e false false)))) ≡ a && l
    go true b c d e l = refl
    go false true c d e l = refl
    go false false true d e l = refl
    go false false false true e l = refl
    go false false false false true l = refl
    go false false false false false l = refl

pub number_parts : (n : ℕ) {f : Floor} → f ≡ floor_of (bit n) → record { cells = f.cells; slots = f.slots; lift = f.car } ≡ parts_of (bit n)
unfolding floor_of parts_of
number_parts n e = ap (λ (f : Floor). record { cells = f.cells; slots = f.slots; lift = f.car }) e

-- ---- of two

-- a part of both
abbrev pub in_both : Parts → Parts → Bits
in_both p q k = parts_bits p k && parts_bits q k

module _ (p q : Parts) where
  pub one_meets : {k : ℕ} {a b : Bool} → k < 53 → a ≡ parts_bits p k → b ≡ parts_bits q k → a && b ≡ true → true ≡ meeting p q
  unfolding meeting
  one_meets {k} h d e t = sym (some_at 53 (in_both p q) k h (sym (ap₂ ◌&&◌ d e) ∙ t))

  pub not_here : (k : ℕ) {a b : Bool} → a ≡ parts_bits p k → b ≡ parts_bits q k → a && b ≡ false → in_both p q k ≡ false
  not_here k d e t = sym (ap₂ ◌&&◌ d e) ∙ t

  pub none_meets : {k : ℕ} → Passed (in_both p q) 53 k → 53 ≤ k → false ≡ meeting p q
  unfolding meeting
  none_meets v h = sym (none_is 53 (in_both p q) (λ i l. v.none i (omega arith)))

  pub both_together : {c s : List Bool} → c ≡ listed 40 (λ k. parts_bits p k || parts_bits q k)
      → s ≡ listed 12 (λ j. parts_bits p (40 + j) || parts_bits q (40 + j))
      → record { cells = c; slots = s; lift = p.lift || q.lift } ≡ together p q
  unfolding together parts_of parts_bits
  both_together d e = ap₂ (λ (c s : List Bool). record { cells = c; slots = s; lift = p.lift || q.lift }) d e
