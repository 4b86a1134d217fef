-- Every sound record with no drive can be brought to all six shuttles lowered, and nothing else changes: a tilted shuttle goes to the row of
-- its side that has no lowered one, and is lowered there. That is tried at every setting of the twelve slots. Assumes nothing.
use mathlib.Core.Path.{◌≡◌, refl, sym, ◌∙◌}
use mathlib.Core.Logic.{inl}
use mathlib.Core.Bool.{Bool, true, false, cond, not, ◌&&◌, beq}
use mathlib.Core.List.{List, [], ◌∷◌, ◌++◌, map}
use Prim.Native.Nat.{ℕ, ◌+◌, ◌-◌, ◌^◌}
use lib.Dec.{T, eqb, ltb}
use borrow.Author.Tests.{not-true}
use Rattle.bits.specs.Bits.{Bits, all_set}
use Rattle.bits.specs.Places.{from, elem}
use Rattle.bits.proofs.Cases.{both, and_intro, and_l, and_r, under, T→true, true→T, beq→eq}
use Rattle.bits.proofs.Fills.{fill, all_fills, at_fill, On, fill_agree}
use Rattle.bits.proofs.Sharing.{all_pass, pass_at}
use Rattle.floor.specs.Floor.{left, right, lowered, tilted, slot, drives}
use Rattle.floor.specs.Tests.{holds, all_hold, under_way, changed}
use Rattle.floor.specs.Sound.{Sound, sound_rules, slots, three_shuttles}
use Rattle.floor.proofs.Reading.{all_read_in, change_in, holds_agree, all_agree, changed_agree, changed_outside, nth_holds}
use Rattle.rules.specs.declared.Instruction.{Instruction}
use Rattle.rules.specs.declared.Instruction.TheVariants.{Shuttles, Tilt}
use Rattle.rules.specs.Rules.{well_formed, conditions, changes, allowed, next_record}
use Rattle.rules_laws.specs.Undoing.{record_after, Moves}
use Rattle.fetch_laws.proofs.Ways.{normal}

-- ---- instructions that read and change slots alone

abbrev all_slots : List ℕ
all_slots = from 40 12

abbrev slots_alone : Instruction → Bool
slots_alone i = all_read_in all_slots (conditions i) && change_in all_slots (changes i)

-- each is one of them and allowed, and the last record passes
unfoldable run_on : List Instruction → Bits → (Bits → Bool) → Bool
run_on [] f p = p f
run_on (i ∷ is) f p = allowed i f && (slots_alone i && run_on is (next_record i f) p)

pub record Lowered (is : List Instruction) (f₀ f : Bits) : Type 0 where
  pub moves : Moves is f
  pub slots : On all_slots (record_after is f₀) (record_after is f)
  pub others : (k : ℕ) → elem k all_slots ≡ false → record_after is f k ≡ f k

-- on a record with the same slots they are allowed too
lowered_so : (is : List Instruction) (f₀ f : Bits) (p : Bits → Bool) → On all_slots f₀ f → holds under_way f ≡ false → T (run_on is f₀ p)
    → Lowered is f₀ f × T (p (record_after is f₀))
unfolding run_on Moves record_after allowed next_record
lowered_so [] f₀ f p e d t = (record { moves = tt; slots = e; others = λ k o. refl }, t)
lowered_so (i ∷ is) f₀ f p e d t =
    let u = and_r (allowed i f₀) _ t in
    let a = and_l (slots_alone i) _ u in
    let in-slots = and_r (all_read_in all_slots (conditions i)) (change_in all_slots (changes i)) a in
    let (well, hold) = both (well_formed i) (all_hold (conditions i) f₀) (T→true (allowed i f₀) (and_l (allowed i f₀) _ t)) in
    let ok : allowed i f ≡ true =
    and_intro well (sym (all_agree all_slots f₀ f e (conditions i) (and_l (all_read_in all_slots (conditions i)) (change_in all_slots (changes i)) a)) ∙ hold) in
    let out : (k : ℕ) → elem k all_slots ≡ false → changed (changes i) f k ≡ f k = changed_outside all_slots f (changes i) in-slots in
    let (L, q) = lowered_so is (changed (changes i) f₀) (changed (changes i) f) p
    (changed_agree all_slots f₀ f e (changes i) in-slots)
    (holds_agree drives (changed (changes i) f) f (λ k m. out k (drive_no_slot k m)) under_way tt ∙ d)
    (and_r (slots_alone i) _ u) in (
      record {
        moves = (ok, inl d, L.moves);
        slots = L.slots;
        others = λ k o. L.others k o ∙ out k o;
      },
      q,
    )
  where
    drive_no_slot : (k : ℕ) → T (elem k drives) → elem k all_slots ≡ false
    drive_no_slot k m = not-true (elem k all_slots) (T→true _ (pass_at (λ k. not (elem k all_slots)) drives tt k m))

-- ---- the way of a side

-- the tilted shuttle's row, and the row that has no lowered one
abbrev tilted_row : ℕ → Bits → ℕ
tilted_row side f = cond (f (slot side tilted 1)) 1 (cond (f (slot side tilted 2)) 2 3)

abbrev open_row : ℕ → Bits → ℕ
open_row side f = cond (f (slot side lowered 1)) (cond (f (slot side lowered 2)) 3 2) 1

-- one row nearer
abbrev hop : ℕ → ℕ → ℕ → List Instruction
hop side t m = cond (eqb t m) [] (Shuttles side (2 ^ (t - 1)) tilted (cond (ltb t m) 1 0) ∷ [])

abbrev hopped : ℕ → ℕ → ℕ
hopped t m = cond (eqb t m) t (cond (ltb t m) (t + 1) (t - 1))

abbrev way_down : ℕ → Bits → List Instruction
way_down side f =
    let t = tilted_row side f in
    let m = open_row side f in
    cond (all_set (slots side lowered) f) [] (hop side t m ++ hop side (hopped t m) m ++ Tilt side m tilted ∷ [])

abbrev both_down : Bits → List Instruction
both_down f = way_down left f ++ way_down right f

abbrev is_normal : Bits → Bool
is_normal f = all_pass (λ k. beq (f k) (normal k)) all_slots

abbrev goes_down : List Bool → Bool
goes_down bs =
    let f = fill all_slots bs in
    cond (holds (three_shuttles left) f && holds (three_shuttles right) f) (run_on (both_down f) f is_normal) true

all_down : T (all_fills all_slots goes_down)
unfolding run_on allowed next_record
all_down = tt

-- ---- so every record has one

pub record Down (f : Bits) : Type 0 where
  pub by : List Instruction
  pub moves : Moves by f
  pub slots : (k : ℕ) → T (elem k all_slots) → record_after by f k ≡ normal k
  pub others : (k : ℕ) → elem k all_slots ≡ false → record_after by f k ≡ f k

pub down : (f : Bits) → Sound f → holds under_way f ≡ false → Down f
down f s d =
    let f₀ = fill all_slots (map f all_slots) in
    let e = fill_agree all_slots f in
    let rule = nth_holds f sound_rules (true→T s.rules) in
    let t = under (holds (three_shuttles left) f₀ && holds (three_shuttles right) f₀) (run_on (both_down f₀) f₀ is_normal)
    (and_intro
    (holds_agree all_slots f₀ f e (three_shuttles left) tt ∙ T→true (holds (three_shuttles left) f) (rule 8))
    (holds_agree all_slots f₀ f e (three_shuttles right) tt ∙ T→true (holds (three_shuttles right) f) (rule 9)))
    (at_fill all_slots goes_down all_down f) in
    let (L, q) = lowered_so (both_down f₀) f₀ f is_normal e d t in
    record {
      by = both_down f₀;
      moves = L.moves;
      slots = λ k m.
          sym (L.slots k m)
          ∙ beq→eq (record_after (both_down f₀) f₀ k) (normal k)
          (pass_at (λ k. beq (record_after (both_down f₀) f₀ k) (normal k)) all_slots q k m);
      others = L.others;
    }
