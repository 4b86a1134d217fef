-- A floor by its parts, its bits one by one, and the number that a loop makes of them. Assumes nothing.
use mathlib.Core.Path.{◌≡◌, refl, sym, ap, ◌∙◌}
use mathlib.Core.Bool.{Bool, true, false, cond, not}
use mathlib.Core.List.{List}
use Prim.Native.Nat.{ℕ, ◌+◌, ◌-◌, ◌≤◌}
use native.Mathlib.Omega.{arith}
use borrow.Author.Tests.{le-ltb, ne_eqb}
use Rattle.bits.specs.Bits.{Bits, packed, image}
use Rattle.bits.proofs.Packing.{Packing}
use Rattle.floor.specs.Floor.{raised_car, height_low, height_high, drive_in, drive_out}
use Rattle.plain.specs.declared.Floor.{Floor}
use Rattle.plain.specs.declared.Height.{Height}
use Rattle.plain.specs.declared.Height.TheVariants.{Street, Rotation, Basement}
use Rattle.plain.specs.Plain.{listed, height_from, plain_bits, floor_of}
use Rattle.plain.specs.Private.{height_digit}

-- ---- a floor by its parts

pub floor_is : (f : Bits) {cells slots : List Bool} {car coming going low high : Bool} {h : Height} → cells ≡ listed 40 f → slots ≡ listed 12 (λ j. f (40 + j))
    → low ≡ f height_low → high ≡ f height_high → h ≡ height_from low high → car ≡ f raised_car → coming ≡ f drive_in → going ≡ f drive_out
    → record { cells = cells; slots = slots; car = car; height = h; coming = coming; going = going } ≡ floor_of f
unfolding floor_of
floor_is f e₁ e₂ e₃ e₄ e₅ e₆ e₇ e₈ = rw (e₁, e₂, e₅, e₃, e₄, e₆, e₇, e₈)

-- ---- its bits

-- each height's digits
pub street_digit : {h : Height} → h ≡ Street → (high : Bool) → false ≡ height_digit h high
street_digit e high = go high ∙ ap (λ (h : Height). height_digit h high) (sym e)
  where
    go : (high : Bool) → false ≡ height_digit Street high
    go true = refl
    go false = refl

pub rotation_digit : {h : Height} → h ≡ Rotation → (high : Bool) → not high ≡ height_digit h high
rotation_digit e high = go high ∙ ap (λ (h : Height). height_digit h high) (sym e)
  where
    go : (high : Bool) → not high ≡ height_digit Rotation high
    go true = refl
    go false = refl

pub basement_digit : {h : Height} → h ≡ Basement → (high : Bool) → high ≡ height_digit h high
basement_digit e high = go high ∙ ap (λ (h : Height). height_digit h high) (sym e)
  where
    go : (high : Bool) → high ≡ height_digit Basement high
    go true = refl
    go false = refl

pub height_bit : (f : Floor) {k : ℕ} (high : Bool) → k ≡ cond high height_high height_low → {b : Bool} → b ≡ height_digit f.height high → b ≡ plain_bits f k
unfolding plain_bits
height_bit f true e d = d ∙ ap (plain_bits f) (sym e)
height_bit f false e d = d ∙ ap (plain_bits f) (sym e)

module _ (f : Floor) {k : ℕ} where
  pub car_bit : k ≡ raised_car → f.car ≡ plain_bits f k
  unfolding plain_bits
  car_bit e = ap (plain_bits f) (sym e)

  pub coming_bit : k ≡ drive_in → f.coming ≡ plain_bits f k
  unfolding plain_bits
  coming_bit e = ap (plain_bits f) (sym e)

  pub going_bit : k ≡ drive_out → f.going ≡ plain_bits f k
  unfolding plain_bits
  going_bit e = ap (plain_bits f) (sym e)

  pub no_bit : 57 ≤ k → false ≡ plain_bits f k
  unfolding plain_bits
  no_bit h =
      rw (
        le-ltb k 40 (omega arith),
        le-ltb k 52 (omega arith),
        ne_eqb k raised_car (λ e. omega arith),
        ne_eqb k height_low (λ e. omega arith),
        ne_eqb k height_high (λ e. omega arith),
        ne_eqb k drive_in (λ e. omega arith),
        ne_eqb k drive_out (λ e. omega arith),
      )

-- ---- its number, packed from the top bit down

pub nothing_packed : (f : Bits) → Packing f 64 0
unfolding packed
nothing_packed f = record { low = omega arith; fits = omega arith; held = refl }

pub all_packed : {f : Bits} {k r : ℕ} → Packing f k r → k ≤ 0 → r ≡ image f
all_packed {f} {k} {r} v h =
    let z : k ≡ 0 = omega arith in
    v.held ∙ ap (λ (n : ℕ). packed (64 - n) n f) z
