-- Tests of a floor as the code asks them, bit by bit, are those of the rules. Assumes nothing.
use mathlib.Core.Path.{◌≡◌, refl, sym, ap, ap₂, ◌∙◌}
use mathlib.Core.Bool.{Bool, true, false, cond, not, ◌&&◌, ◌||◌, and-true, and_assoc}
use mathlib.Core.List.{List, [], ◌∷◌, ◌++◌, map}
use Prim.Native.Nat.{ℕ, ◌+◌, ◌/◌, ◌≤◌}
use native.Mathlib.Omega.{arith}
use lib.Dec.{T, eqb}
use Rattle.std.specs.declared.option.Option.{Option}
use Rattle.std.specs.declared.option.Option.TheVariants.{Some, None}
use Rattle.bits.specs.Bits.{Bits, bit, digit, all_set}
use Rattle.bits.specs.Places.{is_empty, named}
use Rattle.bits.proofs.Digits.{bit_suc}
use Rattle.floor.specs.Floor.{left, right, lowered, slot}
use Rattle.floor.specs.Tests.{Test, fact, set, free, both, when, holds, at_basement}
use Rattle.rules.specs.Named.{needed_slots, lift_named, rows_of, ahead}
use Rattle.rules.specs.Rules.{belts_named}
use Rattle.plain.specs.Private.{last_belt, row_ahead}
use Rattle.plain.proofs.Spans.{slots_needed, row_in, ahead_is}

-- what is asked only where b
pub only_where : (b : Bool) (t : Test) (f : Bits) → not b || holds t f ≡ holds (when b t) f
only_where true t f = refl
only_where false t f = refl

set_append : (js ks : List ℕ) (f : Bits) → all_set js f && all_set ks f ≡ all_set (js ++ ks) f
set_append [] ks f = refl
set_append (j ∷ js) ks f = and_assoc (f j) (all_set js f) (all_set ks f) ∙ ap (λ (b : Bool). f j && b) (set_append js ks f)

-- ---- belts

one_set : (b : Bool) (k : ℕ) (f : Bits) → not b || f k ≡ all_set (cond b (k ∷ []) []) f
one_set true k f = sym (and-true (f k))
one_set false k f = refl

-- each named belt is available, where the code has asked which are named, and for the shuttles and the height
pub all_available : (row mask : ℕ) (f : Bits) → T (belts_named row mask) → {first last middle l r low : Bool} → first ≡ bit mask 0 → l ≡ f (slot left lowered row)
    → last ≡ bit mask (last_belt row) → r ≡ f (slot right lowered row) → middle ≡ bit mask 2 → low ≡ holds at_basement f
    → (not first || l) && (not last || r) && (not (eqb row 1 && middle) || low) ≡ holds (both (set (needed_slots row mask)) (when (lift_named row mask) at_basement)) f
all_available row mask f w e₁ e₂ e₃ e₄ e₅ e₆ =
    ap₂ ◌&&◌
    (ap₂ ◌&&◌
    (ap₂ (λ (x y : Bool). not x || y) e₁ e₂ ∙ one_set (bit mask 0) (slot left lowered row) f)
    (ap₂ (λ (x y : Bool). not x || y) e₃ e₄ ∙ one_set (bit mask (last_belt row)) (slot right lowered row) f)
    ∙ set_append (cond (bit mask 0) (slot left lowered row ∷ []) []) (cond (bit mask (last_belt row)) (slot right lowered row ∷ []) []) f
    ∙ ap (λ (ks : List ℕ). all_set ks f) (slots_needed row mask w))
    (ap₂ (λ (x y : Bool). not (eqb row 1 && x) || y) e₅ e₆ ∙ only_where (lift_named row mask) at_basement f)

-- ---- shuttles

one_row : (b : Bool) (g : ℕ → ℕ) (f : Bits) (row : ℕ) (rows : List ℕ) → (not b || f (g row)) && all_set (map g rows) f ≡ all_set (map g (cond b (row ∷ rows) rows)) f
one_row true g f row rows = refl
one_row false g f row rows = refl

module _ (mask : ℕ) (g : ℕ → ℕ) (f : Bits) where
  rest₂ : (not (bit mask 2) || f (g 3)) && true ≡ all_set (map g (named (mask / 2 / 2) (3 ∷ []))) f
  rest₂ = ap (λ (b : Bool). (not b || f (g 3)) && true) (bit_suc mask 1 ∙ bit_suc (mask / 2) 0) ∙ one_row (bit (mask / 2 / 2) 0) g f 3 []

  rest₁ : (not (bit mask 1) || f (g 2)) && (not (bit mask 2) || f (g 3)) ≡ all_set (map g (named (mask / 2) (2 ∷ 3 ∷ []))) f
  rest₁ =
      ap₂ (λ (b c : Bool). (not b || f (g 2)) && c) (bit_suc mask 0) (sym (and-true (not (bit mask 2) || f (g 3))) ∙ rest₂)
      ∙ one_row (bit (mask / 2) 0) g f 2 (named (mask / 2 / 2) (3 ∷ []))

  -- each named row has its bit
  pub all_rows : {a b c x y z : Bool} → a ≡ bit mask 0 → x ≡ f (g 1) → b ≡ bit mask 1 → y ≡ f (g 2) → c ≡ bit mask 2 → z ≡ f (g 3)
      → (not a || x) && (not b || y) && (not c || z) ≡ all_set (map g (rows_of mask)) f
  all_rows {a} {b} {c} {x} {y} {z} e₁ e₂ e₃ e₄ e₅ e₆ =
      and_assoc (not a || x) (not b || y) (not c || z)
      ∙ ap₂ ◌&&◌ (ap₂ (λ (p q : Bool). not p || q) e₁ e₂)
      (ap₂ ◌&&◌ (ap₂ (λ (p q : Bool). not p || q) e₃ e₄) (ap₂ (λ (p q : Bool). not p || q) e₅ e₆) ∙ rest₁)
      ∙ one_row (bit mask 0) g f 1 (named (mask / 2) (2 ∷ 3 ∷ []))

-- one place is free
pub one_free : (b : Bool) → not b ≡ eqb (digit b + 0) 0
one_free true = refl
one_free false = refl

-- a row that the shuttles move into exists, and its slot is free
module _ (side mask orientation toward : ℕ) (f : Bits) (h : mask ≤ 7) (l : toward ≤ 1) {next : Option ℕ} (e : next ≡ row_ahead toward mask) where
  rows : row_in next ≡ ahead toward mask
  rows = ap row_in e ∙ ahead_is mask (omega arith) toward (omega arith)

  abbrev room : List ℕ → Bool
  room rs = holds (both (fact (not (is_empty rs))) (free (map (slot side orientation) rs))) f

  pub no_row : next ≡ None → false ≡ room (ahead toward mask)
  no_row z = ap (λ (x : Option ℕ). room (row_in x)) (sym z) ∙ ap room rows

  pub next_row : {row : ℕ} → next ≡ Some row → {s : Bool} → s ≡ f (slot side orientation row) → not s ≡ room (ahead toward mask)
  next_row {row} z {s} d =
      ap not d ∙ one_free (f (slot side orientation row))
      ∙ ap (λ (x : Option ℕ). room (row_in x)) (sym z) ∙ ap room rows

-- ---- tilts

pub three_set : (a b c : ℕ) (f : Bits) {x y z : Bool} → x ≡ f a → y ≡ f b → z ≡ f c → x && y && z ≡ all_set (a ∷ b ∷ c ∷ []) f
three_set a b c f {x} {y} {z} p q r =
    and_assoc x y z ∙ ap₂ ◌&&◌ p (ap₂ ◌&&◌ q (r ∙ sym (and-true (f c))))
