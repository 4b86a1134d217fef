-- The garage's rules as rules of the crate `sets`: records are numbers, instructions five bytes, car events their numbers.
-- An instruction that moves the lift under a driver is not allowed, so that with the lift its reach has the drives too. Each instruction and
-- each event writes only its reach and keeps records sound, and reads besides only what it sees: a lift run whether each side's count is
-- even, an event the number of cars. No instruction with another reach changes either, so the rules are framed. Assumes nothing.
use mathlib.Core.Path.{◌≡◌, refl, ap, ap₂, ◌∙◌, sym}
use mathlib.Core.Logic.{inl, inr}
use mathlib.Core.Bool.{Bool, true, false, cond, not, ◌&&◌, and-false}
use mathlib.Core.List.{List, [], ◌++◌}
use Prim.Native.Nat.{ℕ, ◌+◌, ◌<◌}
use native.Mathlib.Omega.{arith}
use lib.Dec.{eqb, ltb, lit<}
use Rattle.bits.specs.Bits.{Bits, bit, image, digit}
use Rattle.bits.specs.Places.{elem, share}
use Rattle.bits.proofs.Cases.{split, clash, off, both, T→true}
use Rattle.bits.proofs.Digits.{bit_image}
use Rattle.bits.proofs.Sharing.{Small, are_small, share_at}
use borrow.Author.Tests.{not-true}
use Rattle.floor.specs.Floor.{lift, raised_car, drive_in, drive_out, drives}
use Rattle.floor.specs.Tests.{holds, under_way}
use Rattle.floor.specs.Cars.{cars}
use Rattle.floor.specs.Sound.{sound}
use Rattle.rules.specs.declared.Code.{Code}
use Rattle.rules.specs.declared.Instruction.{Instruction}
use Rattle.rules.specs.declared.Instruction.TheVariants.{Belts, Shuttles, Tilt, Lift, Rotate}
use Rattle.std.specs.declared.option.Option.{Option}
use Rattle.std.specs.declared.option.Option.TheVariants.{Some, None}
use Rattle.rules.specs.declared.Event.{Event}
use Rattle.rules.specs.declared.Event.TheVariants.{BeginIn, BeginOut, EndDone, EndNotDone}
use Rattle.rules.specs.Rules.{well_formed, area_of, area, overlap, seen, allowed, next_record}
use Rattle.floor.proofs.Reading.{holds_agree}
use Rattle.rules.specs.Events.{in_turn, possible, filled, places_open, after_event}
use Rattle.rules.specs.Codes.{read_code, read_event}
use Rattle.rules.specs.Verdicts.{on_code}
use Rattle.rules.proofs.Frame.{area_small}
use Rattle.rules.proofs.CodeLaws.{one_form_lem, event_one_form}
use Rattle.rules_laws.proofs.Laws.{same_verdict_lem, same_bits_lem, events_local, image_sound, image_cars, image_sides, event_image_sound, event_image_cars}
use Rattle.any_order.proofs.Rules.{Rules, Clear, Agree, Local, Within, Quiet, Framed}
use Rattle.station.specs.Held.{held_area, held_allowed, held_next, crosses}
use Rattle.station_laws.proofs.Reach.{reach, in_area_lem, in_drives, outside_area, held_outside}

-- what an event's number says, and what is said of a number that is no event's
abbrev pub on_event : {A : Type 0} → (Event → A) → A → (Option Event) → A
on_event f none (Some e) = f e
on_event f none None = none

-- whether such an event is possible, whether it leaves the places open that are kept so, and the record after it
abbrev pub possible_as : (Option Event) → ℕ → Bool
possible_as v r = on_event (λ e. possible e (bit r)) false v

abbrev pub open_as : (Option Event) → ℕ → Bool
open_as v r = on_event (λ e. places_open e (bit r)) false v

abbrev pub after_as : (Option Event) → ℕ → ℕ
after_as v r = on_event (λ e. image (after_event e (bit r))) r v

-- the number that a fit station answers: while an outstanding set has the lift in an area, and else, by whether a part of it is set apart
abbrev pub held_as : (Option Event) → ℕ
held_as v = on_event (λ e. 6) 4 v

abbrev pub reply_as : (Option Event) → Bool → ℕ → ℕ
reply_as v lost r = on_event (λ e. cond (in_turn e (bit r)) (cond lost 32 (cond (possible e (bit r)) (cond (places_open e (bit r)) 0 33) 10)) 31) 4 v

-- what five bytes see of a record outside their area
abbrev pub seen_as : (Option Instruction) → ℕ → List Bool
seen_as v r = on_code (λ i. seen i (bit r)) [] v

abbrev pub seen_of : Code → ℕ → List Bool
seen_of x r = seen_as (read_code x) r

-- and what an event sees besides the lift and the drives: the number of cars
abbrev pub cars_in : ℕ → ℕ → ℕ
cars_in e r = cars (bit r)

-- five zeros
abbrev pub blank : Code
blank = record { op = 0; a = 0; b = 0; c = 0; d = 0 }

-- the rules of the garage
abbrev pub rules : Rules ℕ Bool Code ℕ
rules = record {
  width = 64;
  look = bit;
  sound = sound;
  blank = blank;
  area = λ x k. elem k (reach x);
  allowed = λ x r. held_allowed x (bit r) && not (crosses x r);
  next = λ x r. image (held_next x (bit r));
  lift = λ k. elem k (lift ++ drives);
  possible = λ e r. possible_as (read_event e) r && open_as (read_event e) r;
  after = λ e r. after_as (read_event e) r;
  held = λ e. held_as (read_event e);
  reply = λ e lost r. reply_as (read_event e) lost r;
}

-- the places of the lift and the drives are bits of the record
lift_small : Small (lift ++ drives)
lift_small = are_small (lift ++ drives) tt

-- what five bytes say is well formed
module _ (x : Code) where
  well : (i : Instruction) → read_code x ≡ Some i → well_formed i ≡ true
  well i e = (one_form_lem x i e).1

-- ---- an instruction, on two records that agree on its reach

module _ (x : Code) (f g : ℕ) (e : Agree 64 bit (λ k. elem k (reach x)) f g) where
  -- it crosses a drive on both or on neither
  crosses_same : crosses x f ≡ crosses x g
  unfolding crosses
  crosses_same = split (share (held_area x) lift)
      (λ u. rw u (ap (λ (b : Bool). b && true)
      (holds_agree drives (bit f) (bit g) (λ k m. let n = T→true (elem k drives) m in e k (are_small drives tt k n) (in_drives x k u n)) under_way tt)))
      (λ u. rw u (and-false (holds under_way (bit f)) ∙ sym (and-false (holds under_way (bit g)))))

  -- it is allowed on both or on neither, where what it sees is the same
  allowed_same : seen_of x f ≡ seen_of x g → held_allowed x (bit f) ≡ held_allowed x (bit g)
  unfolding held_area held_allowed area
  allowed_same = read (read_code x) (well x) (λ k h m. e k h (in_area_lem x k m))
    where
      read : (v : (Option Instruction)) → ((i : Instruction) → v ≡ Some i → well_formed i ≡ true) → Agree 64 bit (λ k. elem k (on_code area_of [] v)) f g
          → seen_as v f ≡ seen_as v g → on_code (λ i. allowed i (bit f)) false v ≡ on_code (λ i. allowed i (bit g)) false v
      read (Some i) w a v = same_verdict_lem i (bit f) (bit g) (λ k m. a k (area_small i (w i refl) k m) m) v
      read None w a v = refl

  -- and makes the same there
  bits_same : (k : ℕ) → k < 64 → elem k (reach x) ≡ true → held_next x (bit f) k ≡ held_next x (bit g) k
  unfolding held_area held_next area
  bits_same k h m = split (elem k (held_area x))
      (read (read_code x) (well x) (λ j l n. e j l (in_area_lem x j n)))
      (λ o. held_outside x f k o ∙ e k h m ∙ sym (held_outside x g k o))
    where
      read : (v : (Option Instruction)) → ((i : Instruction) → v ≡ Some i → well_formed i ≡ true) → Agree 64 bit (λ k. elem k (on_code area_of [] v)) f g
          → elem k (on_code area_of [] v) ≡ true → on_code (λ i. next_record i (bit f)) (bit f) v k ≡ on_code (λ i. next_record i (bit g)) (bit g) v k
      read (Some i) w a n = same_bits_lem i (w i refl) (bit f) (bit g) (λ j l. a j (area_small i (w i refl) j l) l) k n
      read None w a n = clash n refl

-- ---- an event

turn_local : (e : Event) (f g : ℕ) → Agree 64 bit (λ k. elem k (lift ++ drives)) f g → in_turn e (bit f) ≡ in_turn e (bit g)
turn_local e f g a = events_local.same_turn e (bit f) (bit g) (λ k m. a k (lift_small k m) m)

event_local : (v : (Option Event)) → Local 64 bit (λ k. elem k (lift ++ drives)) (possible_as v) (after_as v)
event_local (Some e) = record {
  reads = λ f g a. events_local.same_verdict e (bit f) (bit g) (λ k m. a k (lift_small k m) m);
  writes = λ f g a t k h m. bit_image (after_event e (bit f)) k h ∙ events_local.same_bits e (bit f) (bit g) (λ j n. a j (lift_small j n) n) k m ∙ sym (bit_image (after_event e (bit g)) k h);
  keeps = λ f t k h o. bit_image (after_event e (bit f)) k h ∙ events_local.kept_outside e (bit f) k o;
}
event_local None = record { reads = λ f g e. refl; writes = λ f g e t. clash t refl; keeps = λ f t. clash t refl }

-- with as many cars, a place that is kept open would be filled on both or on neither
places_same : (e : Event) (f g : Bits) → cars f ≡ cars g → places_open e f ≡ places_open e g
unfolding places_open
places_same BeginIn f g c = ap (λ (n : ℕ). ltb n filled) c
places_same BeginOut f g c = refl
places_same EndDone f g c = refl
places_same EndNotDone f g c = refl

open_same : (v : (Option Event)) (f g : ℕ) → cars (bit f) ≡ cars (bit g) → open_as v f ≡ open_as v g
open_same (Some e) f g c = places_same e (bit f) (bit g) c
open_same None f g c = refl

reply_local : (v : (Option Event)) (lost : Bool) (f g : ℕ) → Agree 64 bit (λ k. elem k (lift ++ drives)) f g → cars (bit f) ≡ cars (bit g)
    → reply_as v lost f ≡ reply_as v lost g
reply_local (Some e) lost f g a c =
    ap₂ (λ (t n : Bool). cond {A = ℕ} t (cond lost 32 (cond n (cond (places_open e (bit f)) 0 33) 10)) 31) (turn_local e f g a) ((event_local (Some e)).reads f g a)
    ∙ ap (λ (o : Bool). cond {A = ℕ} (in_turn e (bit g)) (cond lost 32 (cond (possible e (bit g)) (cond o 0 33) 10)) 31) (open_same (Some e) f g c)
reply_local None lost f g a c = refl

-- ---- each keeps records sound

pub next_sound : (x : Code) (r : ℕ) → sound r ≡ true → held_allowed x (bit r) ≡ true → crosses x r ≡ false → sound (image (held_next x (bit r))) ≡ true
unfolding held_allowed held_next held_area crosses
next_sound x r s = go (read_code x)
  where
    go : (v : (Option Instruction)) → on_code (λ i. allowed i (bit r)) false v ≡ true → holds under_way (bit r) && share (on_code area_of [] v) lift ≡ false
        → sound (image (on_code (λ i. next_record i (bit r)) (bit r) v)) ≡ true
    go (Some i) t c = image_sound i r s (split (holds under_way (bit r)) (λ u. inr (rw u at c)) inl) t
    go None t c = clash t refl

pub after_sound : (v : (Option Event)) (r : ℕ) → sound r ≡ true → possible_as v r ≡ true → sound (after_as v r) ≡ true
after_sound (Some e) r s t = event_image_sound e r s t
after_sound None r s t = clash t refl

-- what the rules allow is allowed, and crosses no drive
pub allowed_has : (x : Code) (r : ℕ) → rules.allowed x r ≡ true → (held_allowed x (bit r) ≡ true) × (crosses x r ≡ false)
allowed_has x r t = let (a, c) = both (held_allowed x (bit r)) (not (crosses x r)) t in (a, not-true (crosses x r) c)

allowed_sound : (x : Code) (r : ℕ) → sound r ≡ true → rules.allowed x r ≡ true → sound (image (held_next x (bit r))) ≡ true
allowed_sound x r s t = let (a, c) = allowed_has x r t in next_sound x r s a c

-- ---- what an instruction sees, nothing with another reach changes

-- an area that shares nothing with the lift's
apart : (i : Instruction) (height : ℕ) → Clear 64 (λ k. elem k (area_of (Lift height))) (λ k. elem k (area_of i)) → overlap i (Lift height) ≡ false
unfolding overlap
apart i height c = off (overlap i (Lift height)) (λ e.
    let (k, m, n) = share_at (area_of i) (area_of (Lift height)) e in
    clash m (c k (are_small (area_of (Lift height)) tt k n) n))

seen_next : (x y : Code) → Clear 64 (λ k. elem k (reach x)) (λ k. elem k (reach y)) → Quiet sound (seen_of x) (rules.allowed y) (rules.next y)
unfolding held_area held_allowed held_next
seen_next x y c f s t = read (read_code x) (read_code y) (λ k h m. outside_area y k (c k h (in_area_lem x k m))) (allowed_has y f t).0
  where
    read : (v w : (Option Instruction)) → Clear 64 (λ k. elem k (on_code area_of [] v)) (λ k. elem k (on_code area_of [] w)) → on_code (λ i. allowed i (bit f)) false w ≡ true
        → seen_as v (image (on_code (λ i. next_record i (bit f)) (bit f) w)) ≡ seen_as v f
    read (Some (Lift height)) (Some i) c a = image_sides i height (apart i height c) f s a
    read (Some (Lift height)) None c a = clash a refl
    read (Some (Belts row mask toward size)) w c a = refl
    read (Some (Shuttles side mask orientation toward)) w c a = refl
    read (Some (Tilt side row orientation)) w c a = refl
    read (Some Rotate) w c a = refl
    read None w c a = refl

-- an event is in the reach of what sees anything
seen_after : (x : Code) (e : ℕ) → Clear 64 (λ k. elem k (reach x)) rules.lift → Quiet sound (seen_of x) (rules.possible e) (rules.after e)
unfolding held_area
seen_after x e c f s t = read (read_code x) (λ k h m. c k h (in_area_lem x k m))
  where
    read : (v : (Option Instruction)) → Clear 64 (λ k. elem k (on_code area_of [] v)) rules.lift → seen_as v (rules.after e f) ≡ seen_as v f
    read (Some (Lift height)) c = clash refl (c raised_car (lit< tt) refl)
    read (Some (Belts row mask toward size)) c = refl
    read (Some (Shuttles side mask orientation toward)) c = refl
    read (Some (Tilt side row orientation)) c = refl
    read (Some Rotate) c = refl
    read None c = refl

-- ---- an instruction keeps the number of cars, and an event changes it by those driven in and out

pub next_cars : (x : Code) (r : ℕ) → sound r ≡ true → held_allowed x (bit r) ≡ true → cars (bit (image (held_next x (bit r)))) ≡ cars (bit r)
unfolding held_allowed held_next
next_cars x r s = go (read_code x)
  where
    go : (v : (Option Instruction)) → on_code (λ i. allowed i (bit r)) false v ≡ true → cars (bit (image (on_code (λ i. next_record i (bit r)) (bit r) v))) ≡ cars (bit r)
    go (Some i) t = image_cars i r s t
    go None t = clash t refl

pub event_counted : (e r : ℕ) (v : (Option Event)) → read_event e ≡ v → sound r ≡ true → possible_as v r ≡ true
    → cars (bit (after_as v r)) + digit (eqb e 3 && bit r drive_out) ≡ cars (bit r) + digit (eqb e 3 && bit r drive_in)
event_counted e r (Some BeginIn) p s t = rw (event_one_form e BeginIn p) (ap (λ (n : ℕ). n + 0) (event_image_cars BeginIn r s t))
event_counted e r (Some BeginOut) p s t = rw (event_one_form e BeginOut p) (ap (λ (n : ℕ). n + 0) (event_image_cars BeginOut r s t))
event_counted e r (Some EndDone) p s t = rw (event_one_form e EndDone p) (event_image_cars EndDone r s t)
event_counted e r (Some EndNotDone) p s t = rw (event_one_form e EndNotDone p) (ap (λ (n : ℕ). n + 0) (event_image_cars EndNotDone r s t))
event_counted e r None p s t = clash t refl

-- ---- so the rules are framed

code_within : (x : Code) → Within 64 bit sound (seen_of x) (rules.area x) (rules.allowed x) (rules.next x)
code_within x = record {
  reads = λ f g p q e v. ap₂ (λ (a c : Bool). a && not c) (allowed_same x f g e v) (crosses_same x f g e);
  writes = λ f g p q e v t k h m. bit_image (held_next x (bit f)) k h ∙ bits_same x f g e k h m ∙ sym (bit_image (held_next x (bit g)) k h);
  keeps = λ f p t k h o. bit_image (held_next x (bit f)) k h ∙ held_outside x f k (outside_area x k o);
  safe = allowed_sound x;
}

-- what the rules take is possible
pub can : (e r : ℕ) → rules.possible e r ≡ true → possible_as (read_event e) r ≡ true
can e r t = (both (possible_as (read_event e) r) (open_as (read_event e) r) t).0

event_within : (e : ℕ) → Within 64 bit sound (cars_in e) rules.lift (rules.possible e) (rules.after e)
event_within e = record {
  reads = λ f g p q a c. ap₂ ◌&&◌ ((event_local (read_event e)).reads f g a) (open_same (read_event e) f g c);
  writes = λ f g p q a c t. (event_local (read_event e)).writes f g a (can e f t);
  keeps = λ f p t. (event_local (read_event e)).keeps f (can e f t);
  safe = λ f p t. after_sound (read_event e) f p (can e f t);
}

-- where the lift and the drives are the same, an event changes the number of cars alike
cars_after : (x f g : ℕ) → sound f ≡ true → sound g ≡ true → Agree 64 bit rules.lift f g → cars (bit f) ≡ cars (bit g) → rules.possible x f ≡ true
    → cars (bit (rules.after x f)) ≡ cars (bit (rules.after x g))
cars_after x f g p q a c t =
    let y = can x f t in
    let z = sym ((event_local (read_event x)).reads f g a) ∙ y in
    omega (
      arith,
      c,
      event_counted x f (read_event x) refl p y,
      event_counted x g (read_event x) refl q z,
      ap (λ (b : Bool). digit (eqb x 3 && b)) (a drive_out (lit< tt) refl),
      ap (λ (b : Bool). digit (eqb x 3 && b)) (a drive_in (lit< tt) refl),
    )

pub framed : Framed rules seen_of cars_in
framed = record {
  instruction = code_within;
  event = event_within;
  view_next = seen_next;
  view_after = seen_after;
  glance_next = λ e x c f s t. next_cars x f s (allowed_has x f t).0;
  glance_after = λ e x f g p q a u v t. cars_after x f g p q a u t;
  reply = λ e lost f g p q a c. reply_local (read_event e) lost f g a c;
}
