-- A row's next record is the rules', one test for each kind of instruction but the lift's runs, at every one that is well formed and whose
-- belts or rows leave no gap. Assumes nothing.
use mathlib.Core.Path.{◌≡◌, refl, sym, ap, ap₂, ◌∙◌}
use mathlib.Core.Bool.{Bool, true, false, cond, ◌&&◌, true≢false}
use mathlib.Core.List.{List, [], ◌∷◌}
use Prim.Native.Nat.{ℕ, ◌^◌, ◌<◌}
use lib.Dec.{T, eqb, ltb}
use borrow.Author.Tests.{ltb-true}
use Rattle.bits.specs.Bits.{bit, image}
use Rattle.bits.specs.Places.{places}
use Rattle.bits.specs.Search.{every}
use Rattle.bits.proofs.Cases.{true→T, T→true, both, clash}
use Rattle.bits.proofs.Search.{every_at}
use Rattle.bits.proofs.Digits.{by_bits}
use Rattle.rules.specs.declared.Instruction.{Instruction}
use Rattle.rules.specs.declared.Instruction.TheVariants.{Belts, Shuttles, Tilt, Lift, Rotate}
use Rattle.rules.specs.Rules.{well_formed, changes, next_record}
use Rattle.rules.proofs.Every.{everywhere, each}
use Rattle.rows.specs.Private.{move_row, move_of, whole}
use Rattle.rows.proofs.Steps.{Atom, flat}
use Rattle.rows.proofs.Takes.{takes, row_takes}
use Rattle.areas.specs.Private.{belts_mask, rows_mask, positions, tilted_slots, shuttles_mask, corner, tilt_mask, area_mask}
use Rattle.rows.proofs.Flat.{all_meet, flat_right}
use Rattle.rows.proofs.Same.{same_atom, atom_right}
use Rattle.rows.proofs.Judging.{is_lift, kind}
use Rattle.rows.proofs.Moving.{takes_right, move_right}

abbrev same_atoms : List Atom → List Atom → Bool
same_atoms [] [] = true
same_atoms [] (b ∷ bs) = false
same_atoms (a ∷ as') [] = false
same_atoms (a ∷ as') (b ∷ bs) = same_atom a b && same_atoms as' bs

atoms_same : (x y : List Atom) → same_atoms x y ≡ true → x ≡ y
atoms_same [] [] e = refl
atoms_same [] (b ∷ bs) e = clash e refl
atoms_same (a ∷ as') [] e = clash e refl
atoms_same (a ∷ as') (b ∷ bs) e = let p = both (same_atom a b) (same_atoms as' bs) e in ap₂ ◌∷◌ (atom_right a b p.0) (atoms_same as' bs p.1)

abbrev alike : Instruction → ℕ → Bool
alike i k = same_atoms (flat (row_takes (move_of i) k)) (flat (takes (changes i) k))

abbrev moved : Instruction → Bool
moved i = let m = move_of i in ltb m.from_a (2 ^ 64) && (ltb m.from_b (2 ^ 64) && every 64 (alike i))

abbrev tried : ℕ → Instruction → Bool
tried k i = cond (eqb (kind i) k) (cond (whole i) (moved i) true) true

belts_moved : T (everywhere (tried 1))
unfolding everywhere every places move_of belts_mask rows_mask positions tilted_slots shuttles_mask corner tilt_mask area_mask
belts_moved = tt

shuttles_moved : T (everywhere (tried 2))
unfolding everywhere every places move_of belts_mask rows_mask positions tilted_slots shuttles_mask corner tilt_mask area_mask
shuttles_moved = tt

tilts_moved : T (everywhere (tried 3))
unfolding everywhere every places move_of belts_mask rows_mask positions tilted_slots shuttles_mask corner tilt_mask area_mask
tilts_moved = tt

rotate_moves : T (everywhere (tried 5))
unfolding everywhere every places move_of belts_mask rows_mask positions tilted_slots shuttles_mask corner tilt_mask area_mask
rotate_moves = tt

pick : (b c : Bool) → b ≡ true → T (cond b c true) → c ≡ true
pick true c e t = T→true c t
pick false c e t = clash e refl

ask : (i : Instruction) → is_lift i ≡ false → whole i ≡ true → T (well_formed i) → moved i ≡ true
ask (Belts row mask toward size) l h w = pick _ _ h (each (tried 1) belts_moved (Belts row mask toward size) w)
ask (Shuttles side mask orientation toward) l h w = pick _ _ h (each (tried 2) shuttles_moved (Shuttles side mask orientation toward) w)
ask (Tilt side row orientation) l h w = T→true _ (each (tried 3) tilts_moved (Tilt side row orientation) w)
ask (Lift height) l h w = absurd (true≢false l)
ask Rotate l h w = T→true _ (each (tried 5) rotate_moves Rotate w)

-- on every record
pub row_moves : (i : Instruction) (r : ℕ) → well_formed i ≡ true → is_lift i ≡ false → whole i ≡ true → move_row (move_of i) r < 2 ^ 64
    → move_row (move_of i) r ≡ image (next_record i (bit r))
unfolding next_record
row_moves i r w l h small =
    let m = move_of i in
    let a = both (ltb m.from_a (2 ^ 64)) (ltb m.from_b (2 ^ 64) && every 64 (alike i)) (ask i l h (true→T w)) in
    let b = both (ltb m.from_b (2 ^ 64)) (every 64 (alike i)) a.1 in
    by_bits (move_row m r) (next_record i (bit r)) small
    (λ k kh. move_right m r k (ltb-true m.from_a (2 ^ 64) a.0) (ltb-true m.from_b (2 ^ 64) b.0)
    ∙ flat_right (bit r) (row_takes m k)
    ∙ ap (λ x. all_meet x (bit r)) {x = flat (row_takes m k)} {y = flat (takes (changes i) k)}
    (atoms_same (flat (row_takes m k)) (flat (takes (changes i) k)) (every_at 64 (alike i) b.1 k kh))
    ∙ sym (flat_right (bit r) (takes (changes i) k)) ∙ sym (takes_right (changes i) (bit r) k))
