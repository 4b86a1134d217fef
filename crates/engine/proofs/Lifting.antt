-- The lift in code: the conditions of its moves and of the car events, and the next records. Assumes nothing.
use mathlib.Core.Path.{◌≡◌, refl, sym, ap, ap₂, ◌∙◌}
use mathlib.Core.Bool.{Bool, true, false, cond, not, ◌&&◌, ◌||◌, and-true}
use Prim.Native.Nat.{ℕ, ◌+◌, ◌*◌, ◌%◌, ◌^◌, ◌<◌}
use native.Mathlib.Omega.{arith}
use lib.Dec.{T, eqb, leb→le}
use Rattle.bits.specs.Bits.{Bits, bit, image, count, all_set, laid}
use Rattle.bits.specs.Places.{places}
use Rattle.bits.specs.Search.{every}
use Rattle.bits.proofs.Cases.{and_l, and_r}
use Rattle.bits.proofs.Search.{each}
use Rattle.floor.specs.Floor.{drive_in}
use Rattle.floor.specs.Tests.{holds, height_is, at_basement}
use Rattle.answers.specs.declared.Reason.TheVariants.{OddCount, SameHeight}
use Rattle.rules.specs.declared.Instruction.TheVariants.{Lift}
use Rattle.rules.specs.declared.Event.{Event}
use Rattle.rules.specs.declared.Event.TheVariants.{BeginIn, BeginOut, EndDone, EndNotDone}
use Rattle.rules.specs.declared.Refusal.TheVariants.{NotAllowed}
use Rattle.std.specs.declared.result.Result.TheVariants.{Ok, Err}
use Rattle.rules.specs.Rules.{well_formed, clauses, next_record}
use Rattle.rules.specs.Verdicts.{judged}
use Rattle.rules.specs.Events.{in_turn, possible, after_event}
use Rattle.engine.specs.Private.{lift_bits}
use Rattle.bits.proofs.Lists.{same, same_eq, bit_list}
use Rattle.engine.proofs.Settings.{laid_right}
use Rattle.engine.proofs.Nexts.{lift_touched, lift_car, lift_right, event_touched, event_new, event_right}

-- a well-formed height
pub height_below : (height : ℕ) → T (well_formed (Lift height)) → height < 3
height_below height w = omega (arith, leb→le height 2 w)

-- ---- conditions

-- none of the places of a mask, and an even number
abbrev none_of : ℕ → Bits → Bool
none_of m f = eqb (count (places m) f) 0

abbrev even_of : ℕ → Bits → Bool
even_of m f = eqb (count (places m) f % 2) 0

-- what the code's tests say is what the conditions say
pub lift_law : (height : ℕ) (f : Bits) (still below free whole : Bool) → still ≡ holds (height_is height) f → below ≡ holds at_basement f
    → free ≡ none_of 0x1800 f → whole ≡ even_of 0x7FF f && even_of 0xFE000 f
    → cond (not still) (cond (not below || (free || whole)) (Ok tt) (Err (NotAllowed OddCount))) (Err (NotAllowed SameHeight)) ≡ judged (clauses (Lift height)) f
unfolding places
lift_law height f still below free whole p q u v =
    ap₂ (λ (x y : Bool). cond (not x) (cond y (Ok tt) (Err (NotAllowed OddCount))) (Err (NotAllowed SameHeight))) p (ap₂ (λ (x y : Bool). not x || y) q (ap₂ ◌||◌ u v))

-- an event that comes in turn, with its own conditions
pub in_law : (f : Bits) {due : Bool} → due ≡ in_turn BeginIn f → due && (holds (height_is 0) f && none_of 0x10000000000000 f) ≡ possible BeginIn f
unfolding in_turn possible places
in_law f p = ap₂ ◌&&◌ p (ap (λ (b : Bool). holds (height_is 0) f && b) (sym (and-true (none_of 0x10000000000000 f))))

pub out_law : (f : Bits) {due : Bool} → due ≡ in_turn BeginOut f → due && (holds (height_is 0) f && all_set (places 0x10000000000000) f) ≡ possible BeginOut f
unfolding in_turn possible places
out_law f p = ap₂ ◌&&◌ p (ap (λ (b : Bool). holds (height_is 0) f && b) (sym (and-true (all_set (places 0x10000000000000) f))))

-- an end has none of its own
pub done_law : (f : Bits) {due : Bool} → due ≡ in_turn EndDone f → due ≡ possible EndDone f
unfolding in_turn possible
done_law f {due} p = p ∙ sym (and-true (in_turn EndDone f))

pub not_done_law : (f : Bits) {due : Bool} → due ≡ in_turn EndNotDone f → due ≡ possible EndNotDone f
unfolding in_turn possible
not_done_law f {due} p = p ∙ sym (and-true (in_turn EndNotDone f))

-- ---- next records

-- the bits of the lift as a number
abbrev pub lift_mask : ℕ → Bool → ℕ
lift_mask height car =
    let here = height * 2 ^ 53 % 2 ^ 64 in
    cond car (cond (eqb height 2) (here + 0x1800) (here + 0x10000000000000)) here

-- it names them
all_lifts : T (every 3 λ height. same (places (lift_mask height true)) (lift_bits height true) && same (places (lift_mask height false)) (lift_bits height false))
unfolding every places
all_lifts = tt

pub bits_law : (height : ℕ) (car : Bool) (m : ℕ) → height < 3 → lift_mask height car ≡ m → places m ≡ lift_bits height car
bits_law height car m h e = ap places (sym e) ∙ go car
  where
    with : Bool
    with = same (places (lift_mask height true)) (lift_bits height true)

    without : Bool
    without = same (places (lift_mask height false)) (lift_bits height false)

    t : T (with && without)
    t = each 3 _ all_lifts height h

    go : (car : Bool) → places (lift_mask height car) ≡ lift_bits height car
    go true = same_eq _ _ (and_l with without t)
    go false = same_eq _ _ (and_r with without t)

-- masks that name what the lift touches and makes 1 make its next record
pub lift_laid : (r height t n : ℕ) (car : Bool) → T (well_formed (Lift height)) → t < 2 ^ 64 → n < 2 ^ 64
    → places n ≡ lift_bits height car → places t ≡ lift_touched height (bit r) → car ≡ lift_car height (bit r)
    → image (laid r t n) ≡ image (next_record (Lift height) (bit r))
lift_laid r height t n car w ht hn q p e =
    laid_right r t n (lift_touched height (bit r)) (lift_bits height (lift_car height (bit r))) (next_record (Lift height) (bit r))
    (bit_list t (lift_touched height (bit r)) ht p) (bit_list n (lift_bits height (lift_car height (bit r))) hn (q ∙ ap (lift_bits height) e)) (lift_right height w (bit r))

-- the same for the events
module _ (r : ℕ) where
  event_laid : (e : Event) (t n : ℕ) → t < 2 ^ 64 → n < 2 ^ 64 → places t ≡ event_touched e → places n ≡ event_new e (bit r) → image (laid r t n) ≡ image (after_event e (bit r))
  event_laid e t n ht hn p q =
      laid_right r t n (event_touched e) (event_new e (bit r)) (after_event e (bit r))
      (bit_list t (event_touched e) ht p) (bit_list n (event_new e (bit r)) hn q) (event_right e (bit r))

  pub in_laid : image (laid r 0x80000000000000 0x80000000000000) ≡ image (after_event BeginIn (bit r))
  unfolding places
  in_laid = event_laid BeginIn 0x80000000000000 0x80000000000000 (omega arith) (omega arith) refl refl

  pub out_laid : image (laid r 0x100000000000000 0x100000000000000) ≡ image (after_event BeginOut (bit r))
  unfolding places
  out_laid = event_laid BeginOut 0x100000000000000 0x100000000000000 (omega arith) (omega arith) refl refl

  -- done: the car that was driven in is there, or none is
  pub there_laid : all_set (places 0x80000000000000) (bit r) ≡ true → image (laid r 0x190000000000000 0x10000000000000) ≡ image (after_event EndDone (bit r))
  unfolding places
  there_laid s = event_laid EndDone 0x190000000000000 0x10000000000000 (omega arith) (omega arith) refl (rw (sym (and-true (bit r drive_in)) ∙ s))

  pub gone_laid : all_set (places 0x80000000000000) (bit r) ≡ false → image (laid r 0x190000000000000 0) ≡ image (after_event EndDone (bit r))
  unfolding places
  gone_laid s = event_laid EndDone 0x190000000000000 0 (omega arith) (omega arith) refl (rw (sym (and-true (bit r drive_in)) ∙ s))

  pub stopped_laid : image (laid r 0x180000000000000 0) ≡ image (after_event EndNotDone (bit r))
  unfolding places
  stopped_laid = event_laid EndNotDone 0x180000000000000 0 (omega arith) (omega arith) refl refl
