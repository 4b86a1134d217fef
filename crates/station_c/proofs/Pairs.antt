-- The promises of the questions for building sets: which of two stands first makes no difference to the number, and two overlap exactly if
-- the areas that are written share a bit; and what is set apart is touched by the area. Assumes nothing.
use mathlib.Core.Path.{◌≡◌, refl, sym, ap, ap₂, ◌∙◌}
use mathlib.Core.Bool.{Bool, true, false, not, cond, ◌||◌, and_comm}
use mathlib.Core.List.{List, []}
use Prim.Native.Nat.{ℕ, ◌%◌, ◌^◌, ◌<◌}
use native.Mathlib.Omega.{arith}
use lib.Bits.{bit_and, and_mask}
use lib.Dec.{eqb, ltb}
use lib.ListN.{length, drop}
use Rattle.bits.specs.Bits.{image}
use Rattle.bits.specs.Places.{elem, share}
use Rattle.bits.proofs.Cases.{split, alike}
use Rattle.bits.proofs.Digits.{packed_lt}
use Rattle.bits.proofs.Sharing.{share_at, share_is, share_masks}
use Rattle.answers.specs.declared.Answer.{Answer}
use Rattle.answers.specs.declared.Answer.TheVariants.{Taken, TooFewBytes, BadField, Overlap}
use Rattle.answers.specs.Answers.{number_of}
use Rattle.rules.specs.declared.Instruction.{Instruction}
use Rattle.std.specs.declared.option.Option.{Option}
use Rattle.std.specs.declared.option.Option.TheVariants.{Some, None}
use Rattle.rules.specs.declared.Sharing.{Sharing}
use Rattle.rules.specs.declared.Sharing.TheVariants.{Apart}
use Rattle.rules.specs.Rules.{well_formed, area_of, area, overlap}
use Rattle.rules.specs.Codes.{read_code, read_bytes, code_from}
use Rattle.rules.specs.Verdicts.{on_code, mask_of, sharing_of}
use Rattle.rules.proofs.CodeLaws.{one_form_lem}
use Rattle.rules.proofs.Frame.{area_small}
use Rattle.station.specs.Held.{code_at, held_area}
use Rattle.station.specs.Private.{held_mask}
use Rattle.station.proofs.Areas.{parts_mask, touching}
use Rattle.rooms.proofs.Promises.{eight_back}
use Rattle.rooms.specs.Rooms.{writes}
use Rattle.station_c.specs.Sets.{area_in, area_answer, area_into, sharing_said, pair_answer}
use Rattle.station_c.specs.Promises.{read_area, PairEitherWay, PairByAreas, TouchesByArea}

-- ---- in either order

pub share_either : (ks js : List ℕ) → share ks js ≡ share js ks
share_either ks js = alike (share ks js) (share js ks)
    (λ e. let (k, p, q) = share_at ks js e in share_is js ks k q p)
    (λ e. let (k, p, q) = share_at js ks e in share_is ks js k q p)

sharing_either : (i j : Instruction) → sharing_of i j ≡ sharing_of j i
unfolding sharing_of overlap
sharing_either i j =
    ap₂ (λ (w o : Bool). cond w (cond o Sharing.Overlap Apart) Sharing.IllFormed)
    (and_comm (well_formed i) (well_formed j))
    (share_either (area_of i) (area_of j))

-- what is answered of two, by whether each has too few bytes and by what it says
abbrev told : Bool → Bool → (Option Instruction) → (Option Instruction) → Answer
told few fewer one other =
    cond (few || fewer) TooFewBytes (on_code (λ i. on_code (λ j. sharing_said (sharing_of i j)) (BadField 1) other) (BadField 0) one)

told_either : (few fewer : Bool) (one other : (Option Instruction)) → number_of (told few fewer one other) ≡ number_of (told fewer few other one)
told_either true true one other = refl
told_either true false one other = refl
told_either false true one other = refl
told_either false false (Some i) (Some j) = ap (λ (s : Sharing). number_of (sharing_said s)) (sharing_either i j)
told_either false false (Some i) None = refl
told_either false false None (Some j) = refl
told_either false false None None = refl

pub pair_either_way : PairEitherWay
unfolding pair_answer
pair_either_way one other = told_either (ltb (length one) 5) (ltb (length other) 5) (read_bytes one) (read_bytes other)

-- ---- by the areas

-- the area of a well-formed instruction; what enough bytes say
mask_of_lem : (i : Instruction) → well_formed i ≡ true → mask_of i ≡ Some (image (area i))
unfolding mask_of
mask_of_lem i w = ap (λ (b : Bool). cond b (Some (image (area i))) Option.None) w

read_code_lem : (five : List ℕ) {g : (Option Instruction)} → ltb (length five) 5 ≡ false → read_bytes five ≡ g → read_code (code_from five) ≡ g
unfolding read_bytes
read_code_lem five u e = sym (ap (λ (b : Bool). cond b None (read_code (code_from five))) u) ∙ e

-- what bytes say whose area is written
record Written (five room : List ℕ) : Type 0 where
  one : Instruction
  enough : ltb (length five) 5 ≡ false
  says : read_bytes five ≡ Some one
  formed : well_formed one ≡ true
  number : read_area (area_into five room).leaves ≡ image (area one)

module _ (five room : List ℕ) (h : (area_into five room).says % 256 ≡ 0) where
  by_reading : ltb (length room) 8 ≡ false → ltb (length five) 5 ≡ false → (g : (Option Instruction)) → read_bytes five ≡ g → Written five room
  unfolding area_into area_answer area_in writes
  by_reading t u None e = absurd (let z = rw (t, u, e) at h in omega arith)
  by_reading t u (Some i) e =
      let w : well_formed i ≡ true = (one_form_lem (code_from five) i (read_code_lem five u e)).1 in
      record {
        one = i;
        enough = u;
        says = e;
        formed = w;
        number = rw (t, u, e, mask_of_lem i w) (eight_back (image (area i)) (drop 8 room) (packed_lt 64 0 (area i)));
      }

  written : Written five room
  unfolding area_into area_answer writes
  written = split (ltb (length room) 8)
      (λ t. absurd (let z = rw t at h in omega arith))
      (λ t. split (ltb (length five) 5)
      (λ u. absurd (let z = rw (t, u) at h in omega arith))
      (λ u. by_reading t u (read_bytes five) refl))

-- the answer, by the number that is in both
both_of : (m : ℕ) → sharing_said (cond (not (eqb m 0)) Sharing.Overlap Apart) ≡ cond (eqb m 0) Taken (Overlap 1)
both_of m = split (eqb m 0) (λ e. rw e) (λ e. rw e)

-- of two well-formed ones
shared : (i j : Instruction) → well_formed i ≡ true → well_formed j ≡ true
    → sharing_said (sharing_of i j) ≡ cond (eqb (bit_and (image (area i)) (image (area j))) 0) Taken (Overlap 1)
unfolding sharing_of overlap area
shared i j wi wj = rw (wi, wj, share_masks (area_of i) (area_of j) (area_small i wi)) (both_of (bit_and (image (area i)) (image (area j))))

pub pair_by_areas : PairByAreas
unfolding pair_answer
pair_by_areas one other room room' h k =
    let v = written one room h in
    let w = written other room' k in
    rw (v.enough, w.enough, v.says, w.says, v.number, w.number) (shared v.one w.one v.formed w.formed)

-- ---- what is set apart

-- a number with no bit above the lift's has parts only
below : (m apart : ℕ) → apart < 2 ^ 53 → bit_and m (bit_and apart parts_mask) ≡ bit_and m apart
below m apart h =
    let low : apart % 2 ^ 53 ≡ apart = omega arith in
    ap (bit_and m) (and_mask apart 53 ∙ low)

-- the mask that the station has of an instruction is its area
held_so : (five : List ℕ) (i : Instruction) → read_code (code_from five) ≡ Some i → image (area i) ≡ held_mask (code_from five)
unfolding held_mask held_area area
held_so five i e = ap (λ (g : (Option Instruction)). image (λ k. elem k (on_code area_of [] g))) (sym e)

pub touches_by_area : TouchesByArea
unfolding code_at
touches_by_area five room apart low h =
    let v = written five room h in
    touching five apart 0 {m = image (area v.one)} {x = code_from five} refl (held_so five v.one (read_code_lem five v.enough v.says))
    ∙ ap (λ (y : ℕ). not (eqb y 0)) (below (image (area v.one)) apart low)
    ∙ ap (λ (y : ℕ). not (eqb (bit_and y apart) 0)) (sym v.number)
