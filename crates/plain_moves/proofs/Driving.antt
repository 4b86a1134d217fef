-- Car events on a floor: their turn, when they are possible, and the floor after one; and from a verdict to the floor after an instruction.
-- Assumes nothing.
use mathlib.Core.Path.{◌≡◌, refl, sym, ap, ap₂, ◌∙◌}
use mathlib.Core.Bool.{Bool, true, false, cond, not, ◌&&◌, ◌||◌, and-true}
use Prim.Native.Nat.{ℕ, ◌+◌, ◌<◌}
use native.Mathlib.Omega.{arith}
use lib.Dec.{eqb}
use borrow.Author.Tests.{ne_eqb}
use Rattle.bits.specs.Bits.{Bits, digit}
use Rattle.bits.proofs.Cases.{split}
use Rattle.floor.specs.Floor.{raised_car, height_low, height_high, street, drive_in, drive_out}
use Rattle.floor.specs.Tests.{holds, height_is, under_way}
use Rattle.rules.specs.declared.Instruction.{Instruction}
use Rattle.rules.specs.declared.Event.{Event}
use Rattle.rules.specs.declared.Event.TheVariants.{BeginIn, BeginOut, EndDone, EndNotDone}
use Rattle.rules.specs.Rules.{well_formed, clauses, allowed, next_record}
use Rattle.rules.specs.Events.{in_turn, possible, after_event}
use Rattle.rules.specs.Verdicts.{Verdict, is_allowed}
use Rattle.rules.proofs.Reasons.{judged_allows}
use Rattle.plain.specs.declared.Floor.{Floor}
use Rattle.plain.specs.Plain.{plain_bits, floor_of}
use Rattle.plain.specs.Conditions.{verdict_on}
use Rattle.plain_moves.specs.Moves.{moved_floor, driven_floor}
use Rattle.plain.proofs.Imaging.{floor_is, car_bit, coming_bit, going_bit}
use Rattle.plain_moves.proofs.Floors.{Sized, height_bits, cells_kept, slots_kept}

-- ---- a verdict

allows : (i : Instruction) (f : Bits) → is_allowed (verdict_on i f) ≡ allowed i f
unfolding verdict_on allowed
allows i f = split (well_formed i) (λ w. rw w (judged_allows (clauses i) f)) (λ w. rw w)

module _ (i : Instruction) (f : Floor) {v : Verdict} (e : v ≡ verdict_on i (plain_bits f)) where
  -- what a verdict says of the instruction
  pub told_by : {w : Verdict} → v ≡ w → is_allowed w ≡ allowed i (plain_bits f)
  told_by q = ap is_allowed (sym q ∙ e) ∙ allows i (plain_bits f)

  -- where it isn't allowed the floor stays
  pub stays_put : {w : Verdict} → v ≡ w → is_allowed w ≡ false → f ≡ moved_floor i f
  unfolding moved_floor
  stays_put q n = ap (λ (b : Bool). cond b (floor_of (next_record i (plain_bits f))) f) (sym n ∙ told_by q)

  pub moves_on : {r : Floor} → allowed i (plain_bits f) ≡ true → r ≡ floor_of (next_record i (plain_bits f)) → r ≡ moved_floor i f
  unfolding moved_floor
  moves_on a q = q ∙ ap (λ (b : Bool). cond b (floor_of (next_record i (plain_bits f))) f) (sym a)

-- one instruction for another
pub so_allowed : (f : Bits) {i j : Instruction} → i ≡ j → allowed i f ≡ true → allowed j f ≡ true
so_allowed f e ok = sym (ap (λ (x : Instruction). allowed x f) e) ∙ ok

pub next_of : (f : Bits) {i j : Instruction} {r : Floor} → i ≡ j → r ≡ floor_of (next_record j f) → r ≡ floor_of (next_record i f)
next_of f e q = q ∙ ap (λ (x : Instruction). floor_of (next_record x f)) (sym e)

-- ---- its turn, and its conditions

pub under_way_lem : (f : Floor) → f.coming || f.going ≡ holds under_way (plain_bits f)
unfolding plain_bits
under_way_lem f = go f.coming f.going
  where
    go : (a b : Bool) → a || b ≡ not (eqb (digit a + (digit b + 0)) 0)
    go true true = refl
    go true false = refl
    go false true = refl
    go false false = refl

module _ (f : Bits) {b : Bool} (e : b ≡ holds under_way f) where
  pub begins_in_turn : (not b ≡ in_turn BeginIn f) × (not b ≡ in_turn BeginOut f)
  unfolding in_turn
  begins_in_turn = (ap not e, ap not e)

  pub ends_in_turn : (b ≡ in_turn EndDone f) × (b ≡ in_turn EndNotDone f)
  unfolding in_turn
  ends_in_turn = (e, e)

-- one event for another
module _ (f : Bits) {d e : Event} (q : e ≡ d) {b : Bool} where
  pub turn_of : b ≡ in_turn d f → b ≡ in_turn e f
  turn_of p = p ∙ ap (λ (x : Event). in_turn x f) (sym q)

  pub turn_told : b ≡ in_turn e f → b ≡ in_turn d f
  turn_told p = p ∙ ap (λ (x : Event). in_turn x f) q

  pub possible_of : b ≡ possible d f → b ≡ possible e f
  possible_of p = p ∙ ap (λ (x : Event). possible x f) (sym q)

module _ (f : Floor) {turn at-street : Bool} (s : at-street ≡ holds (height_is street) (plain_bits f)) where
  pub in_possible : turn ≡ in_turn BeginIn (plain_bits f) → turn && (at-street && not f.car) ≡ possible BeginIn (plain_bits f)
  unfolding in_turn possible plain_bits
  in_possible t = ap₂ ◌&&◌ t (ap₂ ◌&&◌ s (go f.car))
    where
      go : (b : Bool) → not b ≡ eqb (digit b + 0) 0 && true
      go true = refl
      go false = refl

  pub out_possible : turn ≡ in_turn BeginOut (plain_bits f) → turn && (at-street && f.car) ≡ possible BeginOut (plain_bits f)
  unfolding in_turn possible plain_bits
  out_possible t = ap₂ ◌&&◌ t (ap₂ ◌&&◌ s (sym (and-true (f.car && true) ∙ and-true f.car)))

pub end_possible : (f : Bits) {turn : Bool} → turn ≡ in_turn EndDone f → turn ≡ possible EndDone f
unfolding in_turn possible
end_possible f t = t ∙ sym (and-true (holds under_way f))

pub stop_possible : (f : Bits) {turn : Bool} → turn ≡ in_turn EndNotDone f → turn ≡ possible EndNotDone f
unfolding in_turn possible
stop_possible f t = t ∙ sym (and-true (holds under_way f))

-- ---- the floor after one

-- no event touches a cell, a slot or the height
untouched : (e : Event) (f : Bits) (k : ℕ) → k < 52 → f k ≡ after_event e f k
unfolding after_event
untouched BeginIn f k h = rw (ne_eqb drive_in k (λ q. omega arith))
untouched BeginOut f k h = rw (ne_eqb drive_out k (λ q. omega arith))
untouched EndDone f k h = rw (ne_eqb raised_car k (λ q. omega arith), ne_eqb drive_in k (λ q. omega arith), ne_eqb drive_out k (λ q. omega arith))
untouched EndNotDone f k h = rw (ne_eqb drive_in k (λ q. omega arith), ne_eqb drive_out k (λ q. omega arith))

same_height : (e : Event) (f : Bits) → (f height_low ≡ after_event e f height_low) × (f height_high ≡ after_event e f height_high)
unfolding after_event
same_height BeginIn f = (refl, refl)
same_height BeginOut f = (refl, refl)
same_height EndDone f = (refl, refl)
same_height EndNotDone f = (refl, refl)

module _ (f : Floor) (full : Sized f) where
  driven_by : (e : Event) {car coming going : Bool} → car ≡ after_event e (plain_bits f) raised_car → coming ≡ after_event e (plain_bits f) drive_in
      → going ≡ after_event e (plain_bits f) drive_out
      → record { cells = f.cells; slots = f.slots; car = car; height = f.height; coming = coming; going = going } ≡ driven_floor e f
  unfolding driven_floor
  driven_by e p q r =
      let g = after_event e (plain_bits f) in
      let h = same_height e (plain_bits f) in
      floor_is g (cells_kept f g full (λ k l. untouched e (plain_bits f) k (omega arith))) (slots_kept f g full (λ k a l. untouched e (plain_bits f) k l))
      h.0 h.1 (height_bits f) p q r

  pub begun_in : record { cells = f.cells; slots = f.slots; car = f.car; height = f.height; coming = true; going = f.going } ≡ driven_floor BeginIn f
  unfolding after_event
  begun_in = driven_by BeginIn (car_bit f refl) refl (going_bit f refl)

  pub begun_out : record { cells = f.cells; slots = f.slots; car = f.car; height = f.height; coming = f.coming; going = true } ≡ driven_floor BeginOut f
  unfolding after_event
  begun_out = driven_by BeginOut (car_bit f refl) (coming_bit f refl) refl

  pub ended_done : record { cells = f.cells; slots = f.slots; car = f.coming; height = f.height; coming = false; going = false } ≡ driven_floor EndDone f
  unfolding after_event
  ended_done = driven_by EndDone (coming_bit f refl ∙ sym (and-true (plain_bits f drive_in))) refl refl

  pub ended_not_done : record { cells = f.cells; slots = f.slots; car = f.car; height = f.height; coming = false; going = false } ≡ driven_floor EndNotDone f
  unfolding after_event
  ended_not_done = driven_by EndNotDone (car_bit f refl) refl refl

pub driven_as : (f : Floor) {r : Floor} {d e : Event} → e ≡ d → r ≡ driven_floor d f → r ≡ driven_floor e f
driven_as f q p = p ∙ ap (λ (x : Event). driven_floor x f) (sym q)
