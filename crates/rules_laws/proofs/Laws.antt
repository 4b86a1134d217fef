-- The laws of specs/Laws.antt, from the frame laws of the rules, the rules kept, and the moves. Assumes nothing.
use mathlib.Core.Path.{◌≡◌, refl, sym, ap, ap₂, subst, ◌∙◌}
use mathlib.Core.Logic.{inl, inr}
use mathlib.Core.Bool.{Bool, true, false, not, ◌&&◌, ◌||◌}
use mathlib.Core.List.{List, [], ◌∷◌, ◌++◌}
use Prim.Native.Nat.{ℕ, ◌+◌, ◌/◌, ◌%◌, ◌<◌}
use native.Mathlib.Omega.{arith}
use lib.Dec.{T, eqb}
use lib.ListN.{get_or}
use borrow.Author.Tests.{ne_eqb}
use Rattle.bits.specs.Bits.{Bits, bit, image, digit, count}
use Rattle.bits.specs.Places.{from, elem, share}
use Rattle.bits.proofs.Cases.{both, split, clash, passed as passes, and_T, T→true, true→T}
use Rattle.bits.proofs.Digits.{bit_image}
use Rattle.bits.proofs.Counts.{count_agree, from_elem}
use Rattle.floor.specs.Floor.{row_cells, raised_car, height_low, height_high, lift, left_of_lift, right_of_lift, drive_in, drive_out, drives}
use Rattle.floor.specs.Tests.{fact, set, free, holds, all_hold}
use Rattle.floor.specs.Cars.{Car, Layout, cars}
use Rattle.floor.specs.Sound.{Sound, sound, sound_rules}
use Rattle.floor.proofs.Reading.{inside, inside_at, all_agree, nth_holds}
use Rattle.floor.proofs.Rows.{Whole, whole_iff_paired}
use Rattle.floor.proofs.Promises.{layout_exactly, sound_exactly}
use Rattle.rules.specs.declared.Instruction.{Instruction}
use Rattle.rules.specs.declared.Instruction.TheVariants.{Shuttles, Lift}
use Rattle.rules.specs.declared.Event.{Event}
use Rattle.rules.specs.declared.Event.TheVariants.{BeginIn, BeginOut, EndDone, EndNotDone}
use Rattle.rules.specs.Rules.{well_formed, area_of, overlap, sides, conditions, allowed, next_record}
use Rattle.rules.specs.Events.{event_conditions, possible, after_event}
use Rattle.rules.proofs.Frame as frame
use Rattle.rules_laws.specs.Laws.{SameVerdict, SameReason, SameBits, KeptOutside, with_lift, LiftOverlaps, SidesKept, SidesNeedSound, EventsLocal, Clear, StaysSound, SameCars, EventSound, CarsAfterEvent, EventCars}
use Rattle.rules_laws.proofs.Shift.{whole_same}
use Rattle.rules_laws.proofs.RulesKept.{clearance, instruction_rules, event_rules}
use Rattle.rules_laws.proofs.Moves.{Safe, safe, cars_same}
use Rattle.rules_laws.proofs.Sides.{which_overlap, kept_sides}

-- ---- areas

pub same_verdict_lem : SameVerdict
same_verdict_lem i f g e v = frame.same_verdict_lem i f g e v

pub same_reason : SameReason
same_reason i r q e v = frame.same_reason i r q e v

pub same_bits_lem : SameBits
same_bits_lem i w f g e = frame.same_next i (true→T w) f g e

pub kept_outside_lem : KeptOutside
kept_outside_lem i w f k o = frame.kept_outside_lem i (true→T w) f k o

pub events_local : EventsLocal
events_local = record {
  same_verdict = λ e f g a. frame.same_possible e f g (λ k m. a k (T→true (elem k (lift ++ drives)) m));
  same_turn = λ e f g a. frame.same_turn e f g (λ k m. a k (T→true (elem k (lift ++ drives)) m));
  same_bits = λ e f g a k m. frame.same_after e f g (λ j n. a j (T→true (elem j (lift ++ drives)) n)) k (true→T m);
  kept_outside = frame.after_outside;
}

-- ---- sound records and cars

-- a layout exists exactly if row 1 is whole
layout_whole : (f : Bits) → (l : List Car) × Layout f l → Whole 20 f
layout_whole f l = (whole_iff_paired f).0 ((layout_exactly f).1 l)

whole_layout : (f : Bits) → Whole 20 f → (l : List Car) × Layout f l
whole_layout f w = (layout_exactly f).0 ((whole_iff_paired f).1 w)

module _ (i : Instruction) (f : Bits) (s : Sound f) (ok : allowed i f ≡ true) where
  passed : (well_formed i ≡ true) × (all_hold (conditions i) f ≡ true)
  unfolding allowed
  passed = both (well_formed i) (all_hold (conditions i) f) ok

  moved : Safe f (next_record i f)
  unfolding next_record
  moved = safe i f (true→T passed.0) (true→T passed.1) (true→T s.rules) (layout_whole f s.layout)

  clear : Clear i f → T (all_hold (clearance i) f)
  clear (inl idle) = split (share (area_of i) lift)
      (λ l. rw l (and_T (holds (free drives) f) true (true→T {b = holds (free drives) f} (passes refl idle)) tt))
      (λ l. rw l tt)
  clear (inr elsewhere) = rw elsewhere tt

  kept : Clear i f → all_hold sound_rules (next_record i f) ≡ true
  unfolding next_record
  kept c = T→true (all_hold sound_rules (next_record i f)) (instruction_rules i (true→T passed.0) f (clear c) (true→T passed.1) (true→T s.rules))

  level : with_lift i ≡ false → sides (next_record i f) ≡ sides f
  unfolding next_record
  level o = kept_sides i o f (true→T passed.0) (true→T passed.1) (true→T s.rules) (layout_whole f s.layout)

pub stays_sound : StaysSound
stays_sound i f s c ok = record { layout = whole_layout (next_record i f) (moved i f s ok).whole; rules = kept i f s ok c }

pub same_cars : SameCars
same_cars i f s ok = (moved i f s ok).same

-- ---- the two sides of the lift

pub lift_overlaps : LiftOverlaps
lift_overlaps = which_overlap

pub sides_kept : SidesKept
sides_kept i height o f s ok = level i f s ok (sym (lift_overlaps i height (passed i f s ok).0) ∙ o)

-- a car stands half on the left shuttle's belt in row 1, where no shuttle is: an empty one that comes there clears that half
pub sides_need_sound : SidesNeedSound
unfolding overlap allowed next_record
sides_need_sound = record {
  bits = bit 0x00407E0000000006;
  instruction = Shuttles 0 6 0 0;
  apart = λ height. refl;
  goes = refl;
  changes = λ e. clash (ap (λ (l : List Bool). get_or l 0 true) e) refl;
}

-- ---- events

pub event_sound : EventSound
unfolding possible after_event
event_sound e f s ok = record { layout = whole_layout (after_event e f) (whole_same f (after_event e f) 20 row (layout_whole f s.layout)); rules = rules }
  where
    row : (k : ℕ) → k < 20 → after_event e f k ≡ f k
    row k h =
        frame.after_outside e f k
        (simp (
          ne_eqb raised_car k (λ p. omega arith),
          ne_eqb height_low k (λ p. omega arith),
          ne_eqb height_high k
              (λ p. omega arith),
          ne_eqb drive_in k (λ p. omega arith),
          ne_eqb drive_out k (λ p. omega arith),
        ))

    rules : all_hold sound_rules (after_event e f) ≡ true
    rules = T→true (all_hold sound_rules (after_event e f)) (event_rules e f (true→T ok) (true→T s.rules))

-- after a drive that is done there is a car on the raised lift exactly if it was a drive-in, and before it exactly if it was a drive-out
module _ (f : Bits) (s : Sound f) (ok : T (all_hold (event_conditions EndDone) f)) where
  drove : (n : ℕ) (a b c : Bool)
      → not (eqb (digit b + (digit c + 0)) 0) && true ≡ true → not (b && (c && true)) ≡ true
      → (eqb (digit b + 0) 0 || eqb (digit a + 0) 0) ≡ true → (eqb (digit c + 0) 0 || (a && true)) ≡ true
      → n + digit (b && true) + digit c ≡ n + digit a + digit b
  drove n true true c any one into out = clash into refl
  drove n true false true any one into out = omega arith
  drove n true false false any one into out = clash any refl
  drove n false true true any one into out = clash one refl
  drove n false true false any one into out = omega arith
  drove n false false true any one into out = clash out refl
  drove n false false false any one into out = clash any refl

  rule : (n : ℕ) → holds (get_or sound_rules n (fact true)) f ≡ true
  rule n = T→true (holds (get_or sound_rules n (fact true)) f) (nth_holds f sound_rules (true→T s.rules) n)

  pub done_cars : (n : ℕ) → n + digit (holds (set (drive_in ∷ [])) f) + digit (f drive_out) ≡ n + digit (f raised_car) + digit (f drive_in)
  done_cars n = drove n (f raised_car) (f drive_in) (f drive_out) (T→true (all_hold (event_conditions EndDone) f) ok) (rule 12) (rule 14) (rule 15)

ended_cars : (f : Bits) → Sound f → possible EndDone f ≡ true → CarsAfterEvent EndDone f (cars (after_event EndDone f)) (cars f)
unfolding possible after_event cars
ended_cars f s ok = done_cars f s (true→T ok) (count (row_cells 1) f / 2 + count (row_cells 2 ++ row_cells 3) f)

pub event_cars : EventCars
unfolding after_event cars
event_cars BeginIn f s ok = refl
event_cars BeginOut f s ok = refl
event_cars EndDone f s ok = ended_cars f s ok
event_cars EndNotDone f s ok = refl

-- ---- the same of records as the numbers that the station keeps

module _ (g : Bits) where
  in_image : (k : ℕ) → T (elem k (from 0 64)) → bit (image g) k ≡ g k
  in_image k m = bit_image g k (from_elem k 0 64 m).1

  count_image : (l : List ℕ) → T (inside (from 0 64) l) → count l (bit (image g)) ≡ count l g
  count_image l t = count_agree l (bit (image g)) g (λ k m. in_image k (inside_at (from 0 64) l t k m))

  cars_image : cars (bit (image g)) ≡ cars g
  cars_image = cars_same g (bit (image g)) (count_image (row_cells 1) tt) (count_image (row_cells 2 ++ row_cells 3) tt) (in_image raised_car tt)

  sides_image : sides (bit (image g)) ≡ sides g
  sides_image = ap₂ (λ (x y : ℕ). eqb (x % 2) 0 ∷ eqb (y % 2) 0 ∷ []) (count_image left_of_lift tt) (count_image right_of_lift tt)

  sound_image : Sound g → sound (image g) ≡ true
  sound_image s = (sound_exactly (image g)).1 (record {
    layout = whole_layout (bit (image g)) (whole_same g (bit (image g)) 20 (λ k h. bit_image g k (omega arith)) (layout_whole g s.layout));
    rules = all_agree (from 0 64) (bit (image g)) g in_image sound_rules tt ∙ s.rules;
  })

-- an allowed instruction clear of drives makes a sound image of a sound image; an allowed one keeps the number of cars
pub image_sound : (i : Instruction) (r : ℕ) → sound r ≡ true → Clear i (bit r) → allowed i (bit r) ≡ true → sound (image (next_record i (bit r))) ≡ true
image_sound i r s c ok = sound_image (next_record i (bit r)) (stays_sound i (bit r) ((sound_exactly r).0 s) c ok)

pub image_cars : (i : Instruction) (r : ℕ) → sound r ≡ true → allowed i (bit r) ≡ true → cars (bit (image (next_record i (bit r)))) ≡ cars (bit r)
image_cars i r s ok = cars_image (next_record i (bit r)) ∙ same_cars i (bit r) ((sound_exactly r).0 s) ok

-- and, where it doesn't overlap a lift run, whether each side's count is even
pub image_sides : (i : Instruction) (height : ℕ) → overlap i (Lift height) ≡ false
    → (r : ℕ) → sound r ≡ true → allowed i (bit r) ≡ true → sides (bit (image (next_record i (bit r)))) ≡ sides (bit r)
image_sides i height o r s ok = sides_image (next_record i (bit r)) ∙ sides_kept i height o (bit r) ((sound_exactly r).0 s) ok

-- a possible event too, with as many cars as it counts
pub event_image_sound : (e : Event) (r : ℕ) → sound r ≡ true → possible e (bit r) ≡ true → sound (image (after_event e (bit r))) ≡ true
event_image_sound e r s ok = sound_image (after_event e (bit r)) (event_sound e (bit r) ((sound_exactly r).0 s) ok)

pub event_image_cars : (e : Event) (r : ℕ) → sound r ≡ true → possible e (bit r) ≡ true → CarsAfterEvent e (bit r) (cars (bit (image (after_event e (bit r))))) (cars (bit r))
event_image_cars e r s ok = subst (λ (n : ℕ). CarsAfterEvent e (bit r) n (cars (bit r))) (sym (cars_image (after_event e (bit r)))) (event_cars e (bit r) ((sound_exactly r).0 s) ok)
