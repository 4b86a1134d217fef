-- Records cross over to plain floors and back: those that have no height 3 and nothing past the drives. Sound records are such, and
-- allowed instructions and car events leave such. Assumes nothing.
use mathlib.Core.Path.{◌≡◌, refl, sym, ap, ap₂, ◌∙◌, fun_ext}
use mathlib.Core.Bool.{Bool, true, false, cond, not, ◌&&◌, and-true}
use mathlib.Core.Logic.{⊎_elim}
use Prim.Native.Nat.{ℕ, ◌+◌, ◌-◌, ◌≤◌, ◌<◌}
use native.Mathlib.Omega.{arith}
use lib.Dec.{T, eqb, ltb, ltb→lt, eqb→eq}
use lib.ListN.{get_or}
use borrow.Author.Tests.{eqb-true, eqb-false, ne_eqb, ltb-true, ltb-false, not-true}
use Rattle.bits.specs.Bits.{Bits, bit, image, count}
use Rattle.bits.specs.Places.{elem}
use Rattle.bits.specs.Search.{every}
use Rattle.bits.proofs.Cases.{split, clash, off, and_l, and_r, T→true, true→T}
use Rattle.bits.proofs.Counts.{count_zero, elem_from}
use Rattle.bits.proofs.Digits.{bit_past, bit_image, packed_lt}
use Rattle.bits.proofs.Search.{lt_or_ge}
use Rattle.bits.proofs.Sharing.{all_pass, pass_at}
use Rattle.floor.specs.Floor.{raised_car, height_low, height_high, drive_in, drive_out, spare}
use Rattle.floor.specs.Tests.{fact, holds}
use Rattle.floor.specs.Sound.{Sound, sound_rules}
use Rattle.floor.proofs.Promises.{sound_exactly}
use Rattle.floor.proofs.Reading.{nth_holds}
use Rattle.rules.specs.declared.Instruction.{Instruction}
use Rattle.rules.specs.declared.Instruction.TheVariants.{Belts, Shuttles, Tilt, Lift, Rotate}
use Rattle.rules.specs.declared.Event.{Event}
use Rattle.rules.specs.declared.Event.TheVariants.{BeginIn, BeginOut, EndDone, EndNotDone}
use Rattle.rules.specs.Rules.{well_formed, changes, next_record}
use Rattle.rules.specs.Events.{after_event}
use Rattle.rules.proofs.Every.{everywhere, each}
use Rattle.rules_laws.proofs.Tried.{targets, not_target}
use Rattle.plain.specs.Plain.{listed, height_number, height_from, plain_bits, floor_of}
use Rattle.plain.proofs.Listing.{listed_at}
use Rattle.plain_laws.specs.Promises.{SoundRecord}

-- cells and slots, and what stands past them
pub parts_at_lem : (f : Bits) (k : ℕ) {b : Bool} → (52 ≤ k → b ≡ f k)
    → cond (ltb k 40) (get_or (listed 40 f) k false) (cond (ltb k 52) (get_or (listed 12 (λ j. f (40 + j))) (k - 40) false) b) ≡ f k
parts_at_lem f k e = split (ltb k 40)
    (λ t. rw t (listed_at 40 k f (ltb-true k 40 t)))
    (λ t. let h = ltb-false k 40 t in rw t (split (ltb k 52)
    (λ u. let l = ltb-true k 52 u in rw u (listed_at 12 (k - 40) (λ j. f (40 + j)) (omega arith) ∙ ap f (omega arith)))
    (λ u. rw u (e (ltb-false k 52 u)))))

-- ---- the records that do

pub record Drawn (f : Bits) : Type 0 where
  pub height : f height_low && f height_high ≡ false
  pub past : (k : ℕ) → drive_out < k → f k ≡ false

-- the two digits of a height that isn't 3
height_reads : (low high : Bool) → low && high ≡ false
    → (bit (height_number (height_from low high)) 0 ≡ low) × (bit (height_number (height_from low high)) 1 ≡ high)
height_reads true true e = clash refl e
height_reads true false e = (refl, refl)
height_reads false true e = (refl, refl)
height_reads false false e = (refl, refl)

-- their bits come back from the floor
pub reads_back : (f : Bits) → Drawn f → plain_bits (floor_of f) ≡ f
unfolding plain_bits floor_of
reads_back f d = fun_ext (λ k. parts_at_lem f k (upper k))
  where
    H : (bit (height_number (height_from (f height_low) (f height_high))) 0 ≡ f height_low) × (bit (height_number (height_from (f height_low) (f height_high))) 1 ≡ f height_high)
    H = height_reads (f height_low) (f height_high) d.height

    upper : (k : ℕ) → 52 ≤ k
        → cond (eqb k raised_car) (f raised_car)
        (cond (eqb k height_low) (bit (height_number (height_from (f height_low) (f height_high))) 0)
        (cond (eqb k height_high) (bit (height_number (height_from (f height_low) (f height_high))) 1)
        (cond (eqb k drive_in) (f drive_in)
        (cond (eqb k drive_out) (f drive_out)
        false))))
        ≡ f k
    upper k h =
        split (eqb k raised_car) (λ t. rw t (ap f (sym (eqb-true k raised_car t))))
        (λ t. rw t (split (eqb k height_low) (λ u. rw u (H.0 ∙ ap f (sym (eqb-true k height_low u))))
        (λ u. rw u (split (eqb k height_high) (λ v. rw v (H.1 ∙ ap f (sym (eqb-true k height_high v))))
        (λ v. rw v (split (eqb k drive_in) (λ w. rw w (ap f (sym (eqb-true k drive_in w))))
        (λ w. rw w (split (eqb k drive_out) (λ x. rw x (ap f (sym (eqb-true k drive_out x))))
        (λ x.
        let a : k ≡ raised_car → ⊥ = eqb-false k raised_car t in
        let b : k ≡ height_low → ⊥ = eqb-false k height_low u in
        let c : k ≡ height_high → ⊥ = eqb-false k height_high v in
        let i : k ≡ drive_in → ⊥ = eqb-false k drive_in w in
        let o : k ≡ drive_out → ⊥ = eqb-false k drive_out x in
        rw x (sym (d.past k (omega arith))))))))))))

-- ---- sound records

sound_rule : (f : Bits) → Sound f → (j : ℕ) → T (holds (get_or sound_rules j (fact true)) f)
sound_rule f S = nth_holds f sound_rules (true→T S.rules)

pub sound_drawn : (r : ℕ) → SoundRecord r → Drawn (bit r)
sound_drawn r s = record { height = height; past = past }
  where
    S : Sound (bit r)
    S = (sound_exactly r).0 s.1

    height : bit r height_low && bit r height_high ≡ false
    height = ap₂ ◌&&◌ (sym (and-true (bit r height_low))) (sym (and-true (bit r height_high))) ∙ not-true _ (T→true _ (sound_rule (bit r) S 10))

    past : (k : ℕ) → drive_out < k → bit r k ≡ false
    past k h = ⊎_elim
        (λ (l : k < 64). count_zero spare (bit r) (eqb→eq (count spare (bit r)) 0 (sound_rule (bit r) S 11)) k (elem_from k 57 7 h (omega arith)))
        (λ (l : 64 ≤ k). bit_past r 64 k s.0 l) (lt_or_ge k 64)

-- ---- after an instruction or a car event

-- an instruction changes nothing past the lift
abbrev low : Instruction → Bool
low i = all_pass (λ k. ltb k drive_in) (targets (changes i))

-- and neither digit of the height, but a lift run, which makes it a height that isn't 3
abbrev keeps_height : Instruction → Bool
keeps_height i = not (elem height_low (targets (changes i))) && not (elem height_high (targets (changes i)))

abbrev level : Instruction → Bool
level (Belts row mask toward size) = keeps_height (Belts row mask toward size)
level (Shuttles side mask orientation toward) = keeps_height (Shuttles side mask orientation toward)
level (Tilt side row orientation) = keeps_height (Tilt side row orientation)
level (Lift height) = not (bit height 0 && bit height 1)
level Rotate = keeps_height Rotate

abbrev crossing : Instruction → Bool
crossing i = low i && level i

all_crossing : T (everywhere crossing)
unfolding everywhere every
all_crossing = tt

module _ (f : Bits) (d : Drawn f) where
  kept : (i : Instruction) → T (keeps_height i) → next_record i f height_low && next_record i f height_high ≡ false
  unfolding next_record
  kept i t =
      let a = and_l (not (elem height_low (targets (changes i)))) (not (elem height_high (targets (changes i)))) t in
      let b = and_r (not (elem height_low (targets (changes i)))) (not (elem height_high (targets (changes i)))) t in
      ap₂ ◌&&◌ (not_target (changes i) f height_low (not-true _ (T→true _ a))) (not_target (changes i) f height_high (not-true _ (T→true _ b))) ∙ d.height

  stays : (i : Instruction) → T (level i) → next_record i f height_low && next_record i f height_high ≡ false
  unfolding next_record
  stays (Belts row mask toward size) t = kept (Belts row mask toward size) t
  stays (Shuttles side mask orientation toward) t = kept (Shuttles side mask orientation toward) t
  stays (Tilt side row orientation) t = kept (Tilt side row orientation) t
  stays (Lift height) t = not-true _ (T→true _ t)
  stays Rotate t = kept Rotate t

  pub next_drawn : (i : Instruction) → T (well_formed i) → Drawn (next_record i f)
  unfolding next_record
  next_drawn i w = record {
    height = stays i (and_r (low i) (level i) t);
    past = λ k h. not_target (changes i) f k (off _ (λ m. (
        let l = ltb→lt k drive_in (pass_at (λ k. ltb k drive_in) (targets (changes i)) (and_l (low i) (level i) t) k (true→T m)) in
        absurd (omega arith)))) ∙ d.past k h;
  }
    where
      t : T (crossing i)
      t = each crossing all_crossing i w

  -- a car event changes nothing past the drives, and no height
  pub after_drawn : (e : Event) → Drawn (after_event e f)
  unfolding after_event
  after_drawn e = record { height = height e; past = past e }
    where
      height : (e : Event) → after_event e f height_low && after_event e f height_high ≡ false
      height BeginIn = d.height
      height BeginOut = d.height
      height EndDone = d.height
      height EndNotDone = d.height

      past : (e : Event) (k : ℕ) → drive_out < k → after_event e f k ≡ false
      past BeginIn k h = rw (ne_eqb drive_in k (omega arith)) (d.past k h)
      past BeginOut k h = rw (ne_eqb drive_out k (omega arith)) (d.past k h)
      past EndDone k h = rw (ne_eqb raised_car k (omega arith), ne_eqb drive_in k (omega arith), ne_eqb drive_out k (omega arith)) (d.past k h)
      past EndNotDone k h = rw (ne_eqb drive_in k (omega arith), ne_eqb drive_out k (omega arith)) (d.past k h)

-- as a number of 64 bits
pub image_shows : (f : Bits) → Drawn f → bit (image f) ≡ f
image_shows f d = fun_ext (λ k. ⊎_elim
    (λ (l : k < 64). bit_image f k l)
    (λ (l : 64 ≤ k). bit_past (image f) 64 k (packed_lt 64 0 f) l ∙ sym (d.past k (omega arith))) (lt_or_ge k 64))
