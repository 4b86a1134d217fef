-- The masks are the areas of the rules: one test, computed for every well-formed instruction. And `&` of two areas is 0 exactly if
-- they share no place. Assumes nothing.
use Rattle.std.specs.Prelude.{MatchOption, IsSomeAnd}
use mathlib.Core.Path.{◌≡◌, refl, sym, ap, ap₂, ◌∙◌}
use mathlib.Core.Bool.{Bool, true, false, not, ◌&&◌}
use Prim.Native.Nat.{ℕ}
use lib.Bits.{bit_and}
use lib.Dec.{T, eqb, eqb→eq}
use Rattle.bits.specs.Bits.{packed, image}
use Rattle.bits.specs.Search.{every}
use Rattle.bits.proofs.Cases.{both, true→T}
use Rattle.bits.proofs.Sharing.{share_masks}
use Rattle.rules.specs.declared.Instruction.{Instruction}
use Rattle.rules.specs.declared.Code.{Code}
use Rattle.rules.specs.declared.Sharing.{Sharing}
use borrow.Author.Tests.{ne_eqb}
use Rattle.std.specs.declared.option.Option.{Option}
use Rattle.std.specs.declared.option.Option.TheVariants.{Some, None}
use Rattle.rules.specs.Rules.{well_formed, area_of, area, overlap}
use Rattle.rules.specs.Codes.{read_code}
use Rattle.rules.specs.Verdicts.{mask_of, sharing_of, on_code, code_mask, code_sharing}
use Rattle.rules.proofs.CodeLaws.{one_form_lem}
use Rattle.rules.proofs.Every.{everywhere, each}
use Rattle.rules.proofs.Frame.{area_small}
use Rattle.areas.specs.declared.Located.{Located}
use Rattle.areas.specs.Located.{locate}
use Rattle.areas.specs.Private.{belts_mask, rows_mask, positions, tilted_slots, shuttles_mask, corner, tilt_mask, area_mask}

-- the mask is the area
abbrev right : Instruction → Bool
right i = eqb (area_mask i) (image (area i))

all_right_lem : T (everywhere right)
unfolding everywhere every packed area belts_mask rows_mask positions tilted_slots shuttles_mask corner tilt_mask area_mask
all_right_lem = tt

pub area_right : (i : Instruction) → well_formed i ≡ true → area_mask i ≡ image (area i)
area_right i w = eqb→eq (area_mask i) (image (area i)) (each right all_right_lem i (true→T w))

module _ (i j : Instruction) (wi : well_formed i ≡ true) (wj : well_formed j ≡ true) where
  pub overlap_right : overlap i j ≡ not (eqb (bit_and (area_mask i) (area_mask j)) 0)
  unfolding overlap area
  overlap_right =
      share_masks (area_of i) (area_of j) (area_small i wi)
      ∙ ap₂ (λ (x y : ℕ). not (eqb (bit_and x y) 0)) (sym (area_right i wi)) (sym (area_right j wj))

-- what is answered of an instruction, and of two
module _ (i : Instruction) where
  pub mask_is : well_formed i ≡ true → Some (area_mask i) ≡ mask_of i
  unfolding mask_of
  mask_is w = rw (w, area_right i w)

  pub mask_none : well_formed i ≡ false → None ≡ mask_of i
  unfolding mask_of
  mask_none w = rw w

module _ (i j : Instruction) where
  pub apart : well_formed i && well_formed j ≡ true → bit_and (area_mask i) (area_mask j) ≡ 0 → Sharing.Apart ≡ sharing_of i j
  unfolding sharing_of
  apart w z = let (wi, wj) = both _ _ w in rw (wi, wj, overlap_right i j wi wj, z)

  pub overlapping : well_formed i && well_formed j ≡ true → (bit_and (area_mask i) (area_mask j) ≡ 0 → ⊥) → Sharing.Overlap ≡ sharing_of i j
  unfolding sharing_of
  overlapping w z = let (wi, wj) = both _ _ w in rw (wi, wj, overlap_right i j wi wj, ne_eqb _ 0 z)

  pub not_shared : well_formed i && well_formed j ≡ false → Sharing.IllFormed ≡ sharing_of i j
  unfolding sharing_of
  not_shared w = rw w

-- and of the bytes that say them
module _ (x y : Code) where
  pub both_read : (i j : Instruction) → read_code x ≡ Some i → read_code y ≡ Some j → sharing_of i j ≡ code_sharing x y
  unfolding code_sharing
  both_read i j p q = rw (p, q)

  pub one_bad : read_code x ≡ None → Sharing.IllFormed ≡ code_sharing x y
  unfolding code_sharing
  one_bad p = rw p

  pub other_bad : (i : Instruction) → read_code x ≡ Some i → read_code y ≡ None → Sharing.IllFormed ≡ code_sharing x y
  unfolding code_sharing
  other_bad i p q = rw (p, q)

-- what was read is well formed, so its mask is its area
module _ (x : Code) where
  abbrev place : Instruction → ℕ → Option Located
  place i m = Some (record { instruction = i; area = m })

  module _ (i : Instruction) (m : ℕ) (g : read_code x ≡ Some i) (a : m ≡ area_mask i) where
    well : well_formed i ≡ true
    well = (one_form_lem x i g).1

    mask : m ≡ image (area i)
    mask = a ∙ area_right i well

    pub located_good : Some (record { instruction = i; area = m }) ≡ locate x
    unfolding locate
    located_good = ap (place i) mask ∙ ap (on_code (λ i. place i (image (area i))) None) (sym g)

    pub area_good : Some m ≡ code_mask x
    unfolding code_mask mask_of
    area_good = rw (g, well) (ap Some mask)

  pub located_bad : read_code x ≡ None → None ≡ locate x
  unfolding locate
  located_bad g = rw g

  pub area_bad : read_code x ≡ None → None ≡ code_mask x
  unfolding code_mask
  area_bad g = rw g
