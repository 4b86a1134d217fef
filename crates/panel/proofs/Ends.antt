-- The loop that marks the last cells of a span: where it starts, one turn, and what it then holds. Assumes nothing.
use mathlib.Core.Path.{◌≡◌, refl, sym, ap, ◌∙◌}
use mathlib.Core.Bool.{Bool, true, false, ◌&&◌}
use mathlib.Core.List.{List}
use Prim.Native.Nat.{ℕ, suc, ◌+◌, ◌-◌, ◌≤◌, ◌<◌}
use native.Mathlib.Omega.{arith}
use native.Mathlib.Numerals.{add-one}
use lib.Dec.{ltb}
use lib.ListN.{get_or, set}
use mir.Val.{bool_byte}
use borrow.Author.Tests.{ltb-true}
use Rattle.bits.specs.Bits.{digit}
use Rattle.bits.proofs.Cases.{split}
use Rattle.bits.proofs.Digits.{digit_lt}
use Rattle.bits.proofs.Packing.{byte_digit}
use Rattle.panel.specs.Private.{no_cells, cell_from_end, end_from}

-- what the cells that are left make of those that are marked
pub record Ending (span : List Bool) (up : Bool) (all : List Bool) (j left : ℕ) (marked : List Bool) : Type 0 where
  pub rest : end_from (40 - j) j left up span marked ≡ all

pub end_starts : (span : List Bool) (up : Bool) (n : ℕ) → Ending span up (end_from 40 0 n up span no_cells) 0 n no_cells
end_starts span up n = record { rest = refl }

pub cell_small : (up : Bool) (j : ℕ) {k : ℕ} → k ≡ cell_from_end up j → j < 40 → k < 40
unfolding cell_from_end
cell_small true j e h = omega arith
cell_small false j e h = omega arith

-- none is taken off where none is left
pub left_enough : (left : ℕ) (b : Bool) → bool_byte (ltb 0 left && b) ≤ left
left_enough left b = split (ltb 0 left)
    (λ t. let h = ltb-true 0 left t in rw t (omega (arith, byte_digit b, digit_lt b)))
    (λ t. rw t (omega arith))

one_turn : (m j left : ℕ) (up : Bool) (span marked : List Bool)
    → let here = ltb 0 left && get_or span (cell_from_end up j) false in
    end_from (suc m) j left up span marked ≡ end_from m (suc j) (left - digit here) up span (set marked (cell_from_end up j) here)
unfolding end_from
one_turn m j left up span marked = refl

pub end_turns : {span : List Bool} {up : Bool} {all : List Bool} {j left : ℕ} {marked : List Bool} {k : ℕ} → Ending span up all j left marked → j < 40 → k ≡ cell_from_end up j
    → Ending span up all (j + 1) (left - bool_byte (ltb 0 left && get_or span k false)) (set marked k (ltb 0 left && get_or span k false))
end_turns {span} {up} {all} {j} {left} {marked} {k} p h e =
    let m : 40 - j ≡ suc (40 - suc j) = omega arith in
    record {
      rest = rw (e, byte_digit (ltb 0 left && get_or span (cell_from_end up j) false), add-one j)
          (sym (one_turn (40 - suc j) j left up span marked) ∙ ap (λ (m : ℕ). end_from m j left up span marked) (sym m) ∙ p.rest);
    }

pub end_ends : {span : List Bool} {up : Bool} {all : List Bool} {j left : ℕ} {marked : List Bool} → Ending span up all j left marked → 40 ≤ j → marked ≡ all
unfolding end_from
end_ends {span} {up} {all} {j} {left} {marked} p h =
    let m : 40 - j ≡ 0 = omega arith in
    ap (λ (m : ℕ). end_from m j left up span marked) (sym m) ∙ p.rest
