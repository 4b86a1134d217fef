-- What an instruction rests on while drives count: its area and, with the lift in it, the bits of the drives. Two such reaches share a
-- place exactly if the areas do, and no instruction changes a drive. Assumes nothing.
use mathlib.Core.Path.{◌≡◌, refl, sym, ◌∙◌}
use mathlib.Core.Logic.{◌⊎◌, inl, inr, ⊎_elim}
use mathlib.Core.Bool.{Bool, true, false, not, cond, ◌&&◌, and-false}
use mathlib.Core.List.{List, [], ◌++◌}
use Prim.Native.Nat.{ℕ, ◌<◌}
use lib.Dec.{T}
use borrow.Author.Tests.{not-true}
use Rattle.bits.specs.Bits.{bit, image}
use Rattle.bits.specs.Places.{elem, share}
use Rattle.bits.specs.Search.{every}
use Rattle.bits.proofs.Cases.{split, clash, off, one_of, alike, and_l, and_r, under, T→true, true→T}
use Rattle.bits.proofs.Digits.{bit_image}
use Rattle.bits.proofs.Lists.{elem_append, in_left, in_right}
use Rattle.bits.proofs.Search.{none_at}
use Rattle.bits.proofs.Sharing.{Small, are_small, share_at, share_is}
use Rattle.floor.specs.Floor.{lift, raised_car, drives}
use Rattle.floor.specs.Tests.{holds, under_way}
use Rattle.floor.proofs.Reading.{holds_agree}
use Rattle.rules.specs.declared.Code.{Code}
use Rattle.rules.specs.declared.Instruction.{Instruction}
use Rattle.std.specs.declared.option.Option.{Option}
use Rattle.std.specs.declared.option.Option.TheVariants.{Some, None}
use Rattle.rules.specs.Rules.{area_of, area, next_record}
use Rattle.rules.specs.Codes.{read_code}
use Rattle.rules.specs.Verdicts.{on_code}
use Rattle.rules.proofs.Every.{everywhere, each}
use Rattle.rules.proofs.CodeLaws.{one_form_lem}
use Rattle.rules_laws.proofs.Laws.{kept_outside_lem}
use Rattle.station.specs.Held.{code_at, held_area, held_next, lift_in, crosses_drive, crosses}
use Rattle.station.proofs.Areas.{held_small}

-- ---- areas and drives

-- no area has the bits of a drive, and one with a place of the lift has the raised lift
abbrev lift_whole : Instruction → Bool
lift_whole i = not (share (area_of i) drives) && cond (share (area_of i) lift) (elem raised_car (area_of i)) true

every_lift : T (everywhere lift_whole)
unfolding everywhere every
every_lift = tt

module _ (x : Code) where
  -- what holds of every instruction, and of bytes that say none, holds of them
  of_code : (P : List ℕ → Type 0) → ((i : Instruction) → T (lift_whole i) → P (area_of i)) → P [] → P (held_area x)
  unfolding held_area
  of_code P good bad = read (read_code x) refl
    where
      read : (g : (Option Instruction)) → read_code x ≡ g → P (on_code area_of [] g)
      read (Some i) e = good i (each lift_whole every_lift i (true→T (one_form_lem x i e).1))
      read None e = bad

  held_drives : share (held_area x) drives ≡ false
  held_drives = of_code (λ a. share a drives ≡ false)
      (λ i t. not-true _ (T→true _ (and_l (not (share (area_of i) drives)) (cond (share (area_of i) lift) (elem raised_car (area_of i)) true) t)))
      refl

  held_raised : share (held_area x) lift ≡ true → elem raised_car (held_area x) ≡ true
  held_raised = of_code (λ a. share a lift ≡ true → elem raised_car a ≡ true)
      (λ i t e. T→true _ (under (share (area_of i) lift) (elem raised_car (area_of i)) e
      (and_r (not (share (area_of i) drives)) (cond (share (area_of i) lift) (elem raised_car (area_of i)) true) t)))
      (λ e. clash e refl)

  -- a place of a drive is in none
  pub drive_outside : (k : ℕ) → elem k drives ≡ true → elem k (held_area x) ≡ false
  drive_outside k m = off _ (λ e. clash (share_is (held_area x) drives k e m) held_drives)

  -- nothing outside the area changes, whatever the bytes say
  pub held_outside : (r k : ℕ) → elem k (held_area x) ≡ false → held_next x (bit r) k ≡ bit r k
  unfolding held_area held_next area
  held_outside r k = read (read_code x) refl
    where
      read : (g : (Option Instruction)) → read_code x ≡ g → elem k (on_code area_of [] g) ≡ false → on_code (λ i. next_record i (bit r)) (bit r) g k ≡ bit r k
      read (Some i) e o = kept_outside_lem i (one_form_lem x i e).1 (bit r) k o
      read None e o = refl

  -- so no instruction begins or ends a drive
  pub under_way_kept : (r : ℕ) → holds under_way (bit (image (held_next x (bit r)))) ≡ holds under_way (bit r)
  under_way_kept r = holds_agree drives (bit (image (held_next x (bit r)))) (bit r)
      (λ k m. let e = T→true (elem k drives) m in bit_image (held_next x (bit r)) k (are_small drives tt k e) ∙ held_outside r k (drive_outside k e)) under_way tt

-- ---- reaches

-- the area and, with the lift in it, the drives
abbrev pub reach : Code → List ℕ
reach x = held_area x ++ cond (share (held_area x) lift) drives []

module _ (x : Code) (k : ℕ) where
  pub in_area_lem : elem k (held_area x) ≡ true → elem k (reach x) ≡ true
  in_area_lem m = T→true (elem k (reach x)) (in_left k (held_area x) _ (true→T m))

  pub in_drives : share (held_area x) lift ≡ true → elem k drives ≡ true → elem k (reach x) ≡ true
  in_drives u m = rw u (T→true (elem k (held_area x ++ drives)) (in_right k (held_area x) drives (true→T m)))

  pub in_reach : elem k (reach x) ≡ true → (elem k (held_area x) ≡ true) ⊎ ((share (held_area x) lift ≡ true) × (elem k drives ≡ true))
  in_reach e =
      ⊎_elim inl (λ m. inr (later m))
      (one_of (elem k (held_area x)) (elem k (cond (share (held_area x) lift) drives [])) (sym (elem_append k (held_area x) _) ∙ e))
    where
      later : elem k (cond (share (held_area x) lift) drives []) ≡ true → (share (held_area x) lift ≡ true) × (elem k drives ≡ true)
      later m = split (share (held_area x) lift) (λ u. (u, rw u at m)) (λ u. clash (rw u at m) refl)

  pub outside_area : elem k (reach x) ≡ false → elem k (held_area x) ≡ false
  outside_area o = off _ (λ m. clash (in_area_lem m) o)

pub reach_small : (x : Code) → Small (reach x)
reach_small x k m = ⊎_elim (held_small x k) (λ p. are_small drives tt k p.1) (in_reach x k m)

-- areas that share nothing have reaches that share nothing
pub reach_apart : (x y : Code) → share (held_area x) (held_area y) ≡ false → share (reach x) (reach y) ≡ false
reach_apart x y o = off _ (λ e.
    let (k, p, q) = share_at (reach x) (reach y) e in
    ⊎_elim
    (λ a. ⊎_elim
    (λ b. clash (share_is (held_area x) (held_area y) k a b) o)
    (λ b. clash a (drive_outside x k b.1))
    (in_reach y k q))
    (λ a. ⊎_elim
    (λ b. clash b (drive_outside y k a.1))
    (λ b. clash (share_is (held_area x) (held_area y) raised_car (held_raised x a.0) (held_raised y b.0)) o)
    (in_reach y k q))
    (in_reach x k p))

-- a reach meets the lift and the drives exactly if the area has the lift
pub reach_lift : (x : Code) → share (reach x) (lift ++ drives) ≡ share (held_area x) lift
reach_lift x = alike (share (reach x) (lift ++ drives)) (share (held_area x) lift)
    (λ e.
    let (k, p, q) = share_at (reach x) (lift ++ drives) e in
    ⊎_elim
    (λ a. ⊎_elim
    (λ b. share_is (held_area x) lift k a b)
    (λ b. clash a (drive_outside x k b))
    (one_of (elem k lift) (elem k drives) (sym (elem_append k lift drives) ∙ q)))
    (λ a. a.0)
    (in_reach x k p))
    (λ u. share_is (reach x) (lift ++ drives) raised_car (in_area_lem x raised_car (held_raised x u)) refl)

-- ---- a drive under way, and the lift in an area

-- where a set does not cross a drive, none of its instructions does
pub crosses_none : (r : ℕ) (set : List ℕ) (n : ℕ) → crosses_drive r set n ≡ false → (i : ℕ) → i < n → crosses (code_at set i) r ≡ false
unfolding crosses crosses_drive lift_in
crosses_none r set n o i h = split (holds under_way (bit r))
    (λ u. rw u (none_at n _ (rw u at o) i h))
    (λ u. rw u)

-- no drive is under way, or the lift is in no area
pub clear_has : (r : ℕ) (set : List ℕ) (n : ℕ) → crosses_drive r set n ≡ false → (holds under_way (bit r) ≡ false) ⊎ (lift_in set n ≡ false)
unfolding crosses_drive
clear_has r set n o = split (holds under_way (bit r)) (λ u. inr (rw u at o)) inl

pub clear_is : (r : ℕ) (set : List ℕ) (n : ℕ) → (holds under_way (bit r) ≡ false) ⊎ (lift_in set n ≡ false) → crosses_drive r set n ≡ false
unfolding crosses_drive
clear_is r set n (inl u) = rw u
clear_is r set n (inr l) = rw l (and-false (holds under_way (bit r)))
